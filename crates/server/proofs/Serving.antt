-- Lemmas about one more connection.
use Rattle.std.proofs.Common.{◌≡◌, ℕ, ◌≤◌, Bool, List, [], ◌∷◌, ◌++◌, map, Option, Some, None, refl, sym, ap, ◌∙◌, subst, arith, append_assoc, append-nil}
use Rattle.std.specs.Prelude.{drop, option_map, slice_get, unwrap_or}
use Rattle.std.specs.Io.KnownBytes.{Appends}
use Rattle.std.proofs.lemmas.List.{map_push}
use Rattle.std.proofs.lemmas.List.Elements.{All-push, All-nil}
use Rattle.std.proofs.lemmas.Option.{none-some}
use Rattle.job_facts.specs.Contents.{Contents}
use Rattle.job_facts.specs.Store.{State, IsHonest, Stays}
use Rattle.job_facts.proofs.Lists.{each_more}
use Rattle.arrivals.specs.Meaning.{contents_after}
use Rattle.reply_store.specs.Runs.{Tried, arrived, decided, AreLeftInTurn, Leaves}
use Rattle.http_requests.specs.declared.ask.Asked.TheVariants as asked
use Rattle.http_messages.specs.Messages.{Agrees}
use Rattle.server.specs.declared.served.Served.{Served}
use Rattle.http_requests.specs.Meant.{Meant, Broken, Refused, Asks, Means}
use Rattle.server.specs.Exchanges.{Exchange, Does, Entry, IsAnswered, IsFixed, IsNext, Moves, Opens, Queue, Serves, ServesAll, moved, shown, tries, tries_at, tries_of}

abbrev brought : Exchange → List ℕ
brought e = e.input

written_is : (after : Option (List ℕ)) (written : List ℕ) → Appends (Some []) after written → unwrap_or after [] ≡ written
written_is None written p = absurd p
written_is (Some xs) written p = p

tries-append : (es fs : List Exchange) → tries (es ++ fs) ≡ tries es ++ tries fs
tries-append [] fs = refl
tries-append (e ∷ es) fs = ap (λ (l : List Tried). tries_of e ++ l) (tries-append es fs) ∙ sym (append_assoc (tries_of e) (tries es) (tries fs))

tries_push : (es : List Exchange) (e : Exchange) → tries (es ++ e ∷ []) ≡ tries es ++ tries_of e
tries_push es e = tries-append es (e ∷ []) ∙ ap (λ (l : List Tried). tries es ++ l) (append-nil (tries_of e))

-- the contents after one more connection
leaves_at : {S : Type 0} (state : S → State) → AreLeftInTurn state → (m : Meant) (s0 s1 s2 : S) (ts : List Tried) (b : Bool)
    → Leaves (state s0) (state s1) ts → Does m (state s1) (state s2) b → Leaves (state s0) (state s2) (ts ++ tries_at m b)
leaves_at state turns Broken s0 s1 s2 ts b leaves does = subst (Leaves (state s0) (state s2)) (sym (append-nil ts)) (turns.stays s0 s1 s2 ts leaves does.0)
leaves_at state turns (Refused why) s0 s1 s2 ts b leaves does = subst (Leaves (state s0) (state s2)) (sym (append-nil ts)) (turns.stays s0 s1 s2 ts leaves does.0)
leaves_at state turns (Asks (asked.Account w)) s0 s1 s2 ts b leaves does = subst (Leaves (state s0) (state s2)) (sym (append-nil ts)) (turns.stays s0 s1 s2 ts leaves does.0)
leaves_at state turns (Asks (asked.Arrival a)) s0 s1 s2 ts b leaves does =
    subst (λ (x : Bool). Leaves (state s0) (state s2) (ts ++ (arrived a, x) ∷ [])) (sym does.2) (turns.more s0 s1 s2 ts (arrived a) does.0 leaves does.1)

pub doubts_at : (m : Meant) (old new : State) (b : Bool) → Does m old new b → old.doubts ≤ new.doubts
doubts_at Broken old new b does = does.0.doubts
doubts_at (Refused why) old new b does = does.0.doubts
doubts_at (Asks (asked.Account w)) old new b does = does.0.doubts
doubts_at (Asks (asked.Arrival a)) old new b does = does.1.doubts

abbrev NextAt : Contents → List Exchange → Exchange → Type 0
NextAt c before e = IsNext (contents_after c (decided (tries before))) e.meant e.served.decided

abbrev AnsweredAt : Contents → List Exchange → Exchange → Type 0
AnsweredAt c before e = IsAnswered (contents_after c (decided (tries before))) e

pub serves_none : {S : Type 0} (state : S → State) → AreLeftInTurn state → (s : S) → ServesAll (state s) (state s) []
serves_none state turns s = record {
  means = All-nil (λ (e : Exchange). Means e.input e.meant);
  leaves = turns.none s;
  answered = λ h c held i e is. absurd (none-some e is);
  fixed = All-nil IsFixed;
  next = λ h c held i e is. absurd (none-some e is);
}

pub serves_more : {S : Type 0} (state : S → State) → AreLeftInTurn state → (s0 s1 s2 : S) (es : List Exchange) (e : Exchange)
    → ServesAll (state s0) (state s1) es → Serves (state s1) (state s2) e → ServesAll (state s0) (state s2) (es ++ e ∷ [])
serves_more state turns s0 s1 s2 es e all one =
    let b = e.served.decided in
    record {
      means = All-push (λ (x : Exchange). Means x.input x.meant) es e all.means one.means;
      leaves = subst (Leaves (state s0) (state s2)) (sym (tries_push es e)) (leaves_at state turns e.meant s0 s1 s2 (tries es) b all.leaves one.does);
      answered = λ h c held. let early : IsHonest (state s1) = omega (arith, doubts_at e.meant (state s1) (state s2) b one.does) in
          each_more (AnsweredAt c) es e (all.answered early c held) (one.answered h (contents_after c (decided (tries es))) (all.leaves.contents early c held));
      fixed = All-push IsFixed es e all.fixed one.fixed;
      next = λ h c held. let early : IsHonest (state s1) = omega (arith, doubts_at e.meant (state s1) (state s2) b one.does) in
          each_more (NextAt c) es e (all.next early c held) (one.next (contents_after c (decided (tries es))) (all.leaves.contents early c held));
    }

-- after the connections, the store was only read
pub serves_stays : {S : Type 0} (state : S → State) → AreLeftInTurn state → (s0 s1 s2 : S) (es : List Exchange)
    → ServesAll (state s0) (state s1) es → Stays (state s1) (state s2) → ServesAll (state s0) (state s2) es
serves_stays state turns s0 s1 s2 es all stays = record {
  means = all.means;
  leaves = turns.stays s0 s1 s2 (tries es) all.leaves stays;
  answered = λ h c held. all.answered (omega (arith, stays.doubts, h)) c held;
  fixed = all.fixed;
  next = λ h c held. all.next (omega (arith, stays.doubts, h)) c held;
}

-- ---- connections that were taken back

pub moves_none : (queue : Option Queue) → Moves queue queue []
moves_none None = tt
moves_none (Some q) = (q.coming, refl, ap (λ (done : List Entry). Some (record { done = done; coming = q.coming })) (sym (append-nil q.done)))

-- the first connection of the queue was served
served_first : (q : Queue) (es : List Exchange) (e : Exchange) (rest : List (List ℕ)) (brings before after : Option (List ℕ)) (served : Served)
    → q.coming ≡ map brought es ++ rest
    → Opens (Some (record { done = q.done ++ map shown es; coming = rest })) brings before → Agrees brings e.input → Appends before after e.written → e.served ≡ served
    → Moves (Some q) (Some (moved after served (record { done = q.done ++ map shown es; coming = rest }))) (es ++ e ∷ [])
served_first q es e rest brings before after served came (bytes, others, coming, is, empty) agrees appends same =
    let input : bytes ≡ e.input = subst (λ (o : Option (List ℕ)). Agrees o e.input) is agrees in
    let all : rest ≡ e.input ∷ others = coming ∙ ap (λ (l : List ℕ). l ∷ others) input in
    let gone : unwrap_or after [] ≡ e.written = written_is after e.written (subst (λ (o : Option (List ℕ)). Appends o after e.written) empty appends) in
    let made : List ℕ → List ℕ → Served → Entry = λ a b s. record { input = a; written = b; served = s } in
    let first : List (List ℕ) → List ℕ = λ l. unwrap_or (slice_get l 0) [] in
    let entry : made (first rest) (unwrap_or after []) served ≡ shown e =
    ap (λ (l : List (List ℕ)). made (first l) (unwrap_or after []) served) all ∙ ap (λ (b : List ℕ). made e.input b served) gone ∙ ap (made e.input e.written) (sym same) in
    let done : (q.done ++ map shown es) ++ made (first rest) (unwrap_or after []) served ∷ [] ≡ q.done ++ map shown (es ++ e ∷ []) =
    ap (λ (x : Entry). (q.done ++ map shown es) ++ x ∷ []) entry ∙ append_assoc q.done (map shown es) (shown e ∷ []) ∙ ap (λ (l : List Entry). q.done ++ l) (sym (map_push shown es e)) in
    let queue : List Entry → List (List ℕ) → Option Queue = λ d c. Some (record { done = d; coming = c }) in (
      others,
      came ∙ ap (λ (l : List (List ℕ)). map brought es ++ l) all ∙ sym (append_assoc (map brought es) (e.input ∷ []) others) ∙ ap (λ (l : List (List ℕ)). l ++ others) (sym (map_push brought es e)),
      ap (λ (d : List Entry). queue d (drop 1 rest)) done ∙ ap (λ (l : List (List ℕ)). queue (q.done ++ map shown (es ++ e ∷ [])) (drop 1 l)) all,
    )

-- the connection that is taken back is the one that was served
pub moves_more : (q0 q1 : Option Queue) (es : List Exchange) (e : Exchange) (brings before after : Option (List ℕ)) (served : Served)
    → Moves q0 q1 es → Opens q1 brings before → Agrees brings e.input → Appends before after e.written → e.served ≡ served
    → Moves q0 (option_map (moved after served) q1) (es ++ e ∷ [])
moves_more None q1 es e brings before after served moves opens agrees appends same = tt
moves_more (Some q) q1 es e brings before after served (rest, came, now) opens agrees appends same =
    subst (λ (o : Option Queue). Opens o brings before → Moves (Some q) (option_map (moved after served) o) (es ++ e ∷ [])) (sym now)
    (λ first. served_first q es e rest brings before after served came first agrees appends same) opens
