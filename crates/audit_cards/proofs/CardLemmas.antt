-- The state of a card after one more status word.
use Rattle.std.proofs.Common.{◌≡◌, ℕ, is_some, suc, Bool, true, false, not, ◌+◌, ◌<◌, ◌^◌, List, [], ◌∷◌, ◌++◌, length, take, drop, get_or, Some, Option, refl, sym, ap, ◌∙◌, arith, inl, inr}
use Rattle.std.specs.Prelude.{◌==◌, if◌then◌else◌, option_map, slice_get}
use Rattle.std.proofs.lemmas.Bool.{cases_lt, false≢true}
use Rattle.std.proofs.lemmas.List.{drop_more, length-append, length_push, map-append, take-append-drop}
use Rattle.std.proofs.lemmas.List.Elements.{All-nil, All-push}
use Rattle.std.proofs.lemmas.Option.{slice_get_within}
use Rattle.store_data.specs.declared.cursor.Cursor.{Cursor}
use Rattle.store_data.specs.declared.cursor.SegmentView.{SegmentView}
use Rattle.store_data.specs.Cursor.{PlacedSegment, cursor_at, segment_at, shown}
use Rattle.store_data.specs.Sequence.{Command, IsPlan, Plan, commands_of}
use Rattle.job_facts.specs.declared.facts.SessionState.TheVariants as session
use Rattle.job_facts.specs.Facts.{Session}
use Rattle.job_facts.specs.Sound.{AreWords}
use Rattle.job_facts.specs.States.{going, goes_at, last_stops, state_with}
use Rattle.table_rows.specs.Tables.{StoredWord}
use Rattle.audit_cards.specs.Cards.{Leaves, status_words}
use Rattle.step_laws.proofs.CursorLemmas.{end_of_view, last_stops-at}
use Rattle.job_facts.proofs.Lists.{item_there, mapped, slice_get-append_left}
use Rattle.store_data.proofs.CursorLemmas.{slice_get-middle, tolerance_there}

no_words : (commands : List Command) → AreWords commands []
no_words commands = record { few = omega arith; go = λ k sw there last. absurd (omega arith); ranged = All-nil (λ w. w < 2 ^ 16) }

-- If the plan has a segment at the cursor, it also has a command there.
pub command_there : (plan : Plan) → IsPlan plan → (k : ℕ) (c : Cursor) → cursor_at plan k ≡ Some c → (v : PlacedSegment) → segment_at plan c.app c.segment ≡ Some v
    → k < length (commands_of plan)
command_there plan is k c at v there =
    let found = mapped (λ (d : Command). d.is_tolerant_last) (slice_get (commands_of plan) k) _ (tolerance_there plan is k c at v there) in
    slice_get_within (commands_of plan) k found.0 found.1

pub Leaves-none : (plan : Plan) (c : Cursor) → cursor_at plan 0 ≡ Some c → Leaves plan [] c false
Leaves-none plan c at = record { words_are = no_words (commands_of plan); stops_is = refl; at = at }

module _ (commands : List Command) where
  -- the effect of the last status word, by its index
  stops_by : (words : List ℕ) (k w : ℕ) → length words ≡ suc k → slice_get words k ≡ Some w → last_stops commands words ≡ not (goes_at commands k w)
  stops_by words k w count at =
      let here : 0 + k ≡ k = omega arith in
      last_stops-at commands 0 k words w count at ∙ ap (λ n. not (goes_at commands n w)) here

  not-true : (b : Bool) → false ≡ not b → b ≡ true
  not-true true e = refl
  not-true false e = absurd (false≢true e)

  not-false : (b : Bool) → true ≡ not b → b ≡ false
  not-false true e = absurd (false≢true (sym e))
  not-false false e = refl

  -- If the last status word lets the session continue, every status word does.
  each_goes : (words : List ℕ) → AreWords commands words → last_stops commands words ≡ false → (k w : ℕ) → slice_get words k ≡ Some w → goes_at commands k w ≡ true
  each_goes words are goes k w there =
      let within : k < length words = slice_get_within words k w there in
      elim (cases_lt (k + 1) (length words)) [
        | inl before ↦ are.go k w there before
        | inr last ↦ not-true (goes_at commands k w) (sym goes ∙ stops_by words k w (omega arith) there)
      ]

  stops_push : (words : List ℕ) (w : ℕ) → last_stops commands (words ++ w ∷ []) ≡ not (goes_at commands (length words) w)
  stops_push words w = stops_by (words ++ w ∷ []) (length words) w (omega (arith, length_push words w)) (slice_get-middle words w [] (length words) refl)

  AreWords-push : (words : List ℕ) (w : ℕ) → AreWords commands words → last_stops commands words ≡ false → length words < length commands → w < 2 ^ 16 → AreWords commands (words ++ w ∷ [])
  AreWords-push words w are goes more small = record {
    few = omega (arith, length_push words w);
    go = λ k sw there last.
        let before : k < length words = omega (arith, length_push words w) in
        each_goes words are goes k sw (sym (slice_get-append_left words (w ∷ []) k before) ∙ there);
    ranged = All-push (λ v. v < 2 ^ 16) words w are.ranged small;
  }

  -- No status word can follow a word that spoils the session.
  none_after_stop : (words more : List ℕ) (w : ℕ) → last_stops commands words ≡ true → AreWords commands (words ++ w ∷ more) → ⊥
  none_after_stop [] more w stops are = false≢true stops
  none_after_stop (v ∷ words) more w stops are =
      let all : List ℕ = v ∷ words in
      let k : ℕ = length words in
      let last = item_there all k (omega arith) in
      let there : slice_get (all ++ w ∷ more) k ≡ Some last.0 = slice_get-append_left all (w ∷ more) k (omega arith) ∙ last.1 in
      let stopped : goes_at commands k last.0 ≡ false = not-false (goes_at commands k last.0) (sym stops ∙ stops_by all k last.0 refl last.1) in
      false≢true (sym stopped ∙ are.go k last.0 there (omega (arith, length-append all (w ∷ more))))

  none_past_end : (words more : List ℕ) (w : ℕ) → length words ≡ length commands → AreWords commands (words ++ w ∷ more) → ⊥
  none_past_end words more w end are = absurd (omega (arith, are.few, length-append words (w ∷ more)))

  going_of : (words : List ℕ) → last_stops commands words ≡ false → going commands words ≡ length words
  going_of words goes = rw goes refl

module _ (plan : Plan) (words : List ℕ) (c : Cursor) where
  pub at_length : Leaves plan words c false → cursor_at plan (length words) ≡ Some c
  at_length left = ap (cursor_at plan) (sym (going_of (commands_of plan) words left.stops_is)) ∙ left.at

  module _ (left : Leaves plan words c false) (w : ℕ) (more : length words < length (commands_of plan)) (small : w < 2 ^ 16) where
    pub Leaves-goes : (next : Cursor) → goes_at (commands_of plan) (length words) w ≡ true → cursor_at plan (length words + 1) ≡ Some next → Leaves plan (words ++ w ∷ []) next false
    Leaves-goes next goes at =
        let stops : last_stops (commands_of plan) (words ++ w ∷ []) ≡ false = stops_push (commands_of plan) words w ∙ ap not goes in
        record {
          words_are = AreWords-push (commands_of plan) words w left.words_are left.stops_is more small;
          stops_is = stops;
          at = ap (cursor_at plan) (going_of (commands_of plan) (words ++ w ∷ []) stops ∙ length_push words w) ∙ at;
        }

    pub Leaves-stops : goes_at (commands_of plan) (length words) w ≡ false → Leaves plan (words ++ w ∷ []) c true
    Leaves-stops stays =
        let stops : last_stops (commands_of plan) (words ++ w ∷ []) ≡ true = stops_push (commands_of plan) words w ∙ ap not stays in
        let one_less : going (commands_of plan) (words ++ w ∷ []) ≡ length words = rw stops (omega (arith, length_push words w)) in
        record {
          words_are = AreWords-push (commands_of plan) words w left.words_are left.stops_is more small;
          stops_is = stops;
          at = ap (cursor_at plan) one_less ∙ at_length left;
        }

  pub none_after : (more : List ℕ) (w : ℕ) → Leaves plan words c true → AreWords (commands_of plan) (words ++ w ∷ more) → ⊥
  none_after more w left are = none_after_stop (commands_of plan) words more w left.stops_is are

  pub none_past : (more : List ℕ) (w : ℕ) → Leaves plan words c false → length words ≡ length (commands_of plan) → AreWords (commands_of plan) (words ++ w ∷ more) → ⊥
  none_past more w left end are = none_past_end (commands_of plan) words more w end are

-- ---- the state

state_by_count : (commands : List Command) (s : Session) (end : Bool) → s.ended ≡ false → last_stops commands s.words ≡ false → (length s.words == length commands) ≡ end
    → state_with commands s ≡ (if end then session.Good else session.Running)
state_by_count commands s end ended stops count = rw (ended, stops, count) refl

pub state_at_end : (plan : Plan) → IsPlan plan → (s : Session) (c : Cursor) (end : Bool) → Leaves plan s.words c false → s.ended ≡ false
    → (view : Option SegmentView) → option_map shown view ≡ segment_at plan c.app c.segment → is_some view ≡ not end
    → state_with (commands_of plan) s ≡ (if end then session.Good else session.Running)
state_at_end plan is s c end left ended view there some =
    state_by_count (commands_of plan) s end ended left.stops_is (sym (end_of_view plan is (length s.words) c (at_length plan s.words c left) view end there some))

-- the status words before and after word `i`
pub status_split : (words : List StoredWord) (i : ℕ) (w : StoredWord) → i < length words → w ≡ get_or words i w
    → status_words words ≡ status_words (take i words) ++ w.sw ∷ status_words (drop (i + 1) words)
status_split words i w within is =
    ap status_words (sym (take-append-drop i words) ∙ ap (λ rest. take i words ++ rest) (drop_more words i w within ∙ ap (λ x. x ∷ drop (i + 1) words) (sym is)))
    ∙ map-append (λ (w : StoredWord). w.sw) (take i words) (w ∷ drop (i + 1) words)
