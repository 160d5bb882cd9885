-- Kept replies and release marks of clients.
use Rattle.std.proofs.Common.{Bor, Ordering, ◌≡◌, ℕ, ◌<◌, Bool, true, false, cond, ◌&&◌, List, [], ◌∷◌, get_or, map, Option, Some, refl, sym, ap, ◌∙◌, arith}
use Rattle.std.specs.Prelude.{◌==◌, AllPairs, bytes_eq, find, nat_lt, option_map, unwrap_or}
use Rattle.std.specs.BTreeMap.{BTreeMap, IsFromIterResult}
use Rattle.std.specs.Cmp.Lexicographic.{slice_cmp}
use Rattle.std.specs.List.{IsDistinct}
use Rattle.std.specs.Map.{keys_of, lookup}
use Rattle.std.specs.Ordering.{eq_by_cmp, is_eq, nat_cmp}
use Rattle.std.proofs.lemmas.Bool.Decides.{nat_tests}
use Rattle.std.proofs.lemmas.Cmp.{eq_by_cmp_equiv, nat_list_cmp_total, on_total}
use Rattle.std.proofs.lemmas.Map.Keys.{IsDistinct-from_apart}
use Rattle.std.proofs.lemmas.Map.Made.{update_all_none}
use Rattle.std.proofs.lemmas.Map.Text.{is_eq-slice_cmp}
use Rattle.job_facts.specs.Contents.{Entry, Mark, has_mark, is_of_number, mark_of}
use Rattle.step_laws.proofs.BlankSums.{bytes_eq_either}
use Rattle.row_laws.proofs.Finding.{AllPairs-from_map, AllPairs-map}
use Rattle.audit_rows.specs.Clients.{mark_at, named}
use Rattle.audit_rows.proofs.NamedLemmas.{pairs_weaker}
use Rattle.audit_rows.proofs.OnceLemmas.{read_pairs}

-- ---- keys without duplicates

pub marks_once : (marks : List Mark) → AllPairs (λ (m n : List ℕ). bytes_eq n m ≡ false) (map (λ (m : Mark). m.client) marks) → AllPairs (λ (m n : Mark). bytes_eq m.client n.client ≡ false) marks
marks_once marks pairs =
    pairs_weaker (λ (m n : Mark). bytes_eq n.client m.client ≡ false) (λ (m n : Mark). bytes_eq m.client n.client ≡ false) (λ m n e. bytes_eq_either m.client n.client ∙ e) marks
    (AllPairs-from_map (λ (m n : List ℕ). bytes_eq n m ≡ false) (λ (m : Mark). m.client) marks pairs)

pub once_marks : (marks : List Mark) → AllPairs (λ (m n : Mark). bytes_eq m.client n.client ≡ false) marks → AllPairs (λ (m n : List ℕ). bytes_eq n m ≡ false) (map (λ (m : Mark). m.client) marks)
once_marks marks pairs =
    AllPairs-map (λ (m n : List ℕ). bytes_eq n m ≡ false) (λ (m : Mark). m.client) marks
    (pairs_weaker (λ (m n : Mark). bytes_eq m.client n.client ≡ false) (λ (m n : Mark). bytes_eq n.client m.client ≡ false) (λ m n e. bytes_eq_either n.client m.client ∙ e) marks pairs)

abbrev pub number_of : Entry → List ℕ × ℕ
number_of e = (e.client, e.number)

equal_either : (m n : ℕ) → (m == n) ≡ (n == m)
equal_either m n = grind (arith, nat_tests)

turned : (d e : Entry) → is_of_number d e ≡ (bytes_eq e.client d.client && (e.number == d.number))
turned d e = ap (λ b. b && (d.number == e.number)) (bytes_eq_either d.client e.client) ∙ ap (λ b. bytes_eq e.client d.client && b) (equal_either d.number e.number)

abbrev pub is_other : List ℕ × ℕ → List ℕ × ℕ → Type 0
is_other x y = (bytes_eq y.0 x.0 && (y.1 == x.1)) ≡ false

pub kept_once : (replies : List Entry) → AllPairs is_other (map number_of replies) → AllPairs (λ (d e : Entry). is_of_number d e ≡ false) replies
kept_once replies pairs =
    pairs_weaker (λ (d e : Entry). is_other (number_of d) (number_of e)) (λ (d e : Entry). is_of_number d e ≡ false) (λ d e other. turned d e ∙ other) replies
    (AllPairs-from_map is_other number_of replies pairs)

pub once_kept : (replies : List Entry) → AllPairs (λ (d e : Entry). is_of_number d e ≡ false) replies → AllPairs is_other (map number_of replies)
once_kept replies pairs =
    AllPairs-map is_other number_of replies
    (pairs_weaker (λ (d e : Entry). is_of_number d e ≡ false) (λ (d e : Entry). is_other (number_of d) (number_of e)) (λ d e other. sym (turned d e) ∙ other) replies pairs)

-- ---- release marks by client

abbrev pub pair_of : Mark → List ℕ × ℕ
pair_of m = (m.client, m.upto)

-- the order of borrowed names
abbrev pub order_of : Bor (List ℕ) → Bor (List ℕ) → Ordering
order_of m n = slice_cmp nat_cmp m.now n.now

abbrev upto_in : Option Mark → Option ℕ
upto_in o = option_map (λ (m : Mark). m.upto) o

module _ (client : List ℕ) where
  -- A look-up among borrowed names is the look-up among the names.
  by_name : (pairs : List (Bor (List ℕ) × ℕ)) → lookup (λ name. is_eq (slice_cmp nat_cmp client name.now)) pairs ≡ lookup (bytes_eq client) (map named pairs)
  by_name [] = refl
  by_name (p ∷ pairs) =
      ap (λ b. cond b (Some p.1) (lookup (λ name. is_eq (slice_cmp nat_cmp client name.now)) pairs)) (is_eq-slice_cmp client p.0.now)
      ∙ ap (λ o. cond (bytes_eq client p.0.now) (Some p.1) o) (by_name pairs)

  of_choice : (b : Bool) (m : Mark) (o : Option Mark) → cond b (Some m.upto) (upto_in o) ≡ upto_in (cond b (Some m) o)
  of_choice true m o = refl
  of_choice false m o = refl

  by_mark : (marks : List Mark) → lookup (bytes_eq client) (map pair_of marks) ≡ upto_in (find (has_mark client) marks)
  by_mark [] = refl
  by_mark (m ∷ marks) =
      ap (λ b. cond b (Some m.upto) (lookup (bytes_eq client) (map pair_of marks))) (bytes_eq_either client m.client)
      ∙ ap (λ o. cond (bytes_eq m.client client) (Some m.upto) o) (by_mark marks) ∙ of_choice (bytes_eq m.client client) m (find (has_mark client) marks)

-- The map that is collected from the pairs of all marks has the release mark of each client.
module _ (marks : List Mark) (pairs : List (Bor (List ℕ) × ℕ)) (is : map named pairs ≡ map pair_of marks) where
  abbrev are_other : List ℕ × ℕ → List ℕ × ℕ → Type 0
  are_other p q = bytes_eq p.0 q.0 ≡ false

  distinct : AllPairs (λ (m n : Mark). bytes_eq m.client n.client ≡ false) marks → IsDistinct (eq_by_cmp order_of) (keys_of pairs)
  distinct once =
      let names = AllPairs-map (λ (m n : Bor (List ℕ)). bytes_eq m.now n.now ≡ false) (λ p. p.0) pairs (read_pairs are_other named pairs (map pair_of marks) is (AllPairs-map are_other pair_of marks once)) in
      IsDistinct-from_apart (eq_by_cmp order_of) (keys_of pairs) (λ i j d before within. is_eq-slice_cmp (get_or (keys_of pairs) i d).now (get_or (keys_of pairs) j d).now ∙ names i j d before within)

  pub mark_is : AllPairs (λ (m n : Mark). bytes_eq m.client n.client ≡ false) marks → (uptos : BTreeMap (Bor (List ℕ)) ℕ) → IsFromIterResult order_of pairs uptos
      → (client : List ℕ) → mark_at uptos client ≡ mark_of marks client
  unfolding mark_at
  mark_is once uptos made client =
      let name : Bor (List ℕ) = record { ref_ptr = (0, 0); now = client } in
      let order = on_total (λ (n : Bor (List ℕ)). n.now) nat_list_cmp_total in
      ap (λ o. unwrap_or o 0)
      (made.0 name ∙ update_all_none (eq_by_cmp_equiv order) (eq_by_cmp order_of) (λ x y. refl) pairs name (distinct once) ∙ by_name client pairs ∙ ap (lookup (bytes_eq client)) is ∙ by_mark client marks)

-- A number is above a release mark if and only if it is above an equal one.
pub above_as : (m n number : ℕ) → m ≡ n → m < number → nat_lt n number ≡ true
above_as m n number same low = grind (arith, nat_tests)

pub as_above : (m n number : ℕ) → m ≡ n → nat_lt n number ≡ true → m < number
as_above m n number same above = grind (arith, nat_tests)
