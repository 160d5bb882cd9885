-- A machine has at most one running session if and only if the machines of the running sessions are
-- distinct.
use Rattle.std.proofs.Common.{◌≡◌, ℕ, zero, suc, ◌+◌, ◌<◌, ◌≤◌, Bool, true, false, cond, ◌&&◌, List, [], ◌∷◌, length, get_or, map, All, inl, inr, refl, sym, ap, ◌∙◌, subst, arith}
use Rattle.std.specs.Prelude.{AllPairs, bytes_eq, count_by, filter}
use Rattle.std.proofs.lemmas.Bool.{cases_Bool, cond-false, cond-true}
use Rattle.std.proofs.lemmas.List.Kept.{AllPairs-cons}
use Rattle.std.proofs.lemmas.List.Sums.{sum_by-cons}
use Rattle.store_data.proofs.GroupLemmas.{bytes_eq-same, same-bytes_eq}
use Rattle.job_facts.specs.States.{is_running}
use Rattle.table_rows.specs.Keys.{is_running_on}
use Rattle.table_rows.specs.Tables.{StoredSession}

-- the number of running sessions of machine `m`
abbrev many : List ℕ → List StoredSession → ℕ
many m ss = count_by (is_running_on m) ss

many-cons : (m : List ℕ) (s : StoredSession) (ss : List StoredSession) → many m (s ∷ ss) ≡ cond (is_running_on m s) 1 0 + many m ss
many-cons m s ss = sum_by-cons (λ x. cond (is_running_on m x) 1 0) s ss

abbrev running : List StoredSession → List (List ℕ)
running ss = map (λ (s : StoredSession). s.machine) (filter (λ (s : StoredSession). is_running s.state) ss)

abbrev AreOnce : List (List ℕ) → Type 0
AreOnce names = AllPairs (λ (m n : List ℕ). bytes_eq n m ≡ false) names

tail_once : (n : List ℕ) (names : List (List ℕ)) → AreOnce (n ∷ names) → AreOnce names
tail_once n names pairs = λ i j d before within. pairs (suc i) (suc j) d (omega arith) (omega arith)

-- A machine that isn't among the machines of running sessions has no running session.
none_runs : (m : List ℕ) (ss : List StoredSession) → All (λ n. bytes_eq n m ≡ false) (running ss) → many m ss ≡ 0
none_runs m [] all = refl
none_runs m (s ∷ ss) all = elim (cases_Bool (is_running s.state)) [
  | inl runs ↦
      let split = ap (map (λ (x : StoredSession). x.machine)) (cond-true (is_running s.state) (s ∷ filter (λ (x : StoredSession). is_running x.state) ss) (filter (λ (x : StoredSession). is_running x.state) ss) runs) in
      let each : All (λ n. bytes_eq n m ≡ false) (s.machine ∷ running ss) = subst (All (λ n. bytes_eq n m ≡ false)) split all in
      let other : is_running_on m s ≡ false = ap (λ b. b && is_running s.state) (each 0 [] (omega arith)) in
      many-cons m s ss ∙ ap (λ b. cond b 1 0 + many m ss) other ∙ ap (λ n. 0 + n) (none_runs m ss (λ k d within. each (suc k) d (omega arith)))
  | inr rests ↦
      let split = ap (map (λ (x : StoredSession). x.machine)) (cond-false (is_running s.state) (s ∷ filter (λ (x : StoredSession). is_running x.state) ss) (filter (λ (x : StoredSession). is_running x.state) ss) rests) in
      let other : is_running_on m s ≡ false = ap (λ b. bytes_eq s.machine m && b) rests ∙ never (bytes_eq s.machine m) in
      many-cons m s ss ∙ ap (λ b. cond b 1 0 + many m ss) other ∙ ap (λ n. 0 + n) (none_runs m ss (subst (All (λ n. bytes_eq n m ≡ false)) split all))
]
  where
    never : (b : Bool) → (b && false) ≡ false
    never true = refl
    never false = refl

never : (b : Bool) → (b && false) ≡ false
never true = refl
never false = refl

at_most : (b : Bool) → cond b 1 0 ≤ 1
at_most true = omega arith
at_most false = omega arith

abbrev runs_there : StoredSession → Bool
runs_there s = is_running s.state

more : (m : List ℕ) (s : StoredSession) (ss : List StoredSession) → is_running_on m s ≡ true → many m (s ∷ ss) ≡ 1 + many m ss
more m s ss on = many-cons m s ss ∙ ap (λ b. cond b 1 0 + many m ss) on

same_many : (m : List ℕ) (s : StoredSession) (ss : List StoredSession) → is_running_on m s ≡ false → many m (s ∷ ss) ≡ many m ss
same_many m s ss off = many-cons m s ss ∙ ap (λ b. cond b 1 0 + many m ss) off ∙ none_more (many m ss)
  where
    none_more : (n : ℕ) → 0 + n ≡ n
    none_more n = omega arith

running_more : (s : StoredSession) (ss : List StoredSession) → is_running s.state ≡ true → running (s ∷ ss) ≡ s.machine ∷ running ss
running_more s ss runs = ap (map (λ (x : StoredSession). x.machine)) (cond-true (is_running s.state) (s ∷ filter runs_there ss) (filter runs_there ss) runs)

running_same : (s : StoredSession) (ss : List StoredSession) → is_running s.state ≡ false → running (s ∷ ss) ≡ running ss
running_same s ss rests = ap (map (λ (x : StoredSession). x.machine)) (cond-false (is_running s.state) (s ∷ filter runs_there ss) (filter runs_there ss) rests)

-- A session adds at most 1 to a number of 0.
one_more : (m : List ℕ) (s : StoredSession) (ss : List StoredSession) → many m ss ≡ 0 → many m (s ∷ ss) ≤ 1
one_more m s ss missing = elim (cases_Bool (is_running_on m s)) [
  | inl on ↦ subst (λ n. n ≤ 1) (sym (more m s ss on ∙ ap (λ n. 1 + n) missing)) (omega arith)
  | inr off ↦ subst (λ n. n ≤ 1) (sym (same_many m s ss off ∙ missing)) (omega arith)
]

pub runs_once : (ss : List StoredSession) → AreOnce (running ss) → (m : List ℕ) → many m ss ≤ 1
runs_once [] pairs m = omega arith
runs_once (s ∷ ss) pairs m = elim (cases_Bool (is_running s.state)) [
  | inl runs ↦
      let each : AreOnce (s.machine ∷ running ss) = subst AreOnce (running_more s ss runs) pairs in
      elim (cases_Bool (bytes_eq s.machine m)) [
        | inl same ↦
            let is : s.machine ≡ m = same-bytes_eq s.machine m same in
            let others : All (λ n. bytes_eq n m ≡ false) (running ss) = λ k d within. ap (bytes_eq (get_or (running ss) k d)) (sym is) ∙ each 0 (suc k) d (omega arith) (omega arith) in
            one_more m s ss (none_runs m ss others)
        | inr other ↦
            subst (λ n. n ≤ 1) (sym (same_many m s ss (ap (λ b. b && is_running s.state) other))) (runs_once ss (tail_once s.machine (running ss) each) m)
      ]
  | inr rests ↦
      subst (λ n. n ≤ 1) (sym (same_many m s ss (ap (λ b. bytes_eq s.machine m && b) rests ∙ never (bytes_eq s.machine m)))) (runs_once ss (subst AreOnce (running_same s ss rests) pairs) m)
]

-- A session that is added at the front doesn't lower the number.
not_fewer : (m : List ℕ) (s : StoredSession) (ss : List StoredSession) → 1 ≤ many m ss → 1 ≤ many m (s ∷ ss)
not_fewer m s ss there = elim (cases_Bool (is_running_on m s)) [
  | inl on ↦ subst (λ n. 1 ≤ n) (sym (more m s ss on)) (omega arith)
  | inr off ↦ subst (λ n. 1 ≤ n) (sym (same_many m s ss off)) there
]

own_runs : (s : StoredSession) → is_running s.state ≡ true → is_running_on s.machine s ≡ true
own_runs s runs = ap (λ b. b && is_running s.state) (bytes_eq-same s.machine) ∙ runs

in_front : (s : StoredSession) (ss : List StoredSession) (k : ℕ) (d : List ℕ) → k < length (s.machine ∷ running ss) → is_running s.state ≡ true
    → ((j : ℕ) → j < length (running ss) → 1 ≤ many (get_or (running ss) j d) ss) → 1 ≤ many (get_or (s.machine ∷ running ss) k d) (s ∷ ss)
in_front s ss zero d inside runs rest = subst (λ n. 1 ≤ n) (sym (more s.machine s ss (own_runs s runs))) (omega arith)
in_front s ss (suc k) d inside runs rest = not_fewer (get_or (running ss) k d) s ss (rest k (omega arith))

-- The machine of a running session has at least one running session.
some_runs : (ss : List StoredSession) (k : ℕ) (d : List ℕ) → k < length (running ss) → 1 ≤ many (get_or (running ss) k d) ss
some_runs [] k d within = absurd (omega arith)
some_runs (s ∷ ss) k d within =
    let rest : (j : ℕ) → j < length (running ss) → 1 ≤ many (get_or (running ss) j d) ss = λ j inside. some_runs ss j d inside in
    elim (cases_Bool (is_running s.state)) [
      | inl runs ↦
          subst (λ (names : List (List ℕ)). 1 ≤ many (get_or names k d) (s ∷ ss)) (sym (running_more s ss runs))
          (in_front s ss k d (subst (λ (names : List (List ℕ)). k < length names) (running_more s ss runs) within) runs rest)
      | inr rests ↦
          subst (λ (names : List (List ℕ)). 1 ≤ many (get_or names k d) (s ∷ ss)) (sym (running_same s ss rests))
          (not_fewer (get_or (running ss) k d) s ss (rest k (subst (λ (names : List (List ℕ)). k < length names) (running_same s ss rests) within)))
    ]

fewer_behind : (m : List ℕ) (s : StoredSession) (ss : List StoredSession) → many m (s ∷ ss) ≤ 1 → many m ss ≤ 1
fewer_behind m s ss most = elim (cases_Bool (is_running_on m s)) [
  | inl on ↦ let all : 1 + many m ss ≤ 1 = subst (λ n. n ≤ 1) (more m s ss on) most in omega arith
  | inr off ↦ subst (λ n. n ≤ 1) (same_many m s ss off) most
]

two_run : (m : List ℕ) (s : StoredSession) (ss : List StoredSession) → is_running_on m s ≡ true → 1 ≤ many m ss → many m (s ∷ ss) ≤ 1 → ⊥
two_run m s ss on there most = let all : 1 + many m ss ≤ 1 = subst (λ n. n ≤ 1) (more m s ss on) most in absurd (omega arith)

pub once_runs : (ss : List StoredSession) → ((m : List ℕ) → many m ss ≤ 1) → AreOnce (running ss)
once_runs [] most = λ i j d before within. absurd (omega arith)
once_runs (s ∷ ss) most =
    let rest : AreOnce (running ss) = once_runs ss (λ m. fewer_behind m s ss (most m)) in
    elim (cases_Bool (is_running s.state)) [
      | inl runs ↦
          let others : All (λ n. bytes_eq n s.machine ≡ false) (running ss) = λ k d within. elim (cases_Bool (bytes_eq (get_or (running ss) k d) s.machine)) [
            | inl same ↦
                absurd (two_run s.machine s ss (own_runs s runs)
                (subst (λ (m : List ℕ). 1 ≤ many m ss) (same-bytes_eq (get_or (running ss) k d) s.machine same) (some_runs ss k d within)) (most s.machine))
            | inr other ↦ other
          ] in
          subst AreOnce (sym (running_more s ss runs)) (AllPairs-cons (λ (m n : List ℕ). bytes_eq n m ≡ false) s.machine (running ss) others rest)
      | inr rests ↦ subst AreOnce (sym (running_same s ss rests)) rest
    ]
