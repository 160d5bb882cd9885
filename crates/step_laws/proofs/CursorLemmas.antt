-- A cursor without a segment is at the end of the plan.
use Rattle.std.proofs.Common.{◌≡◌, ℕ, zero, suc, Bool, true, false, eqb, not, is_some, Option, ◌+◌, ◌<◌, ◌≤◌, List, [], ◌∷◌, length, Some, None, sym, ap, ◌∙◌, subst, arith, inl, inr}
use Rattle.std.specs.Prelude.{option_map}
use Rattle.std.specs.List.{enumerate_from, flat_map, slice_get}
use Rattle.std.proofs.lemmas.Bool.{cases_lt, eq-eqb, ne_eqb}
use Rattle.std.proofs.lemmas.List.{length_push}
use Rattle.std.proofs.lemmas.Option.{none-some, same_Some, slice_get-get_or, slice_get_past, slice_get_within}
use Rattle.store_data.specs.declared.cursor.Cursor.{Cursor}
use Rattle.store_data.specs.declared.cursor.SegmentView.{SegmentView}
use Rattle.store_data.specs.Cursor.{IsCursor, PlacedSegment, application_cursors, cursor_at, cursors_of, is_tolerant_last_at, segment_at, select_cursor, shown}
use Rattle.store_data.specs.Sequence.{Command, IsPlan, Plan, commands_of, goes_on, sequence}
use Rattle.job_facts.specs.States.{goes_at, is_tolerant, last_stops_from}
use Rattle.store_data.proofs.CursorLemmas.{fits_there, length-cursors_of, segment_before, tolerance_there, length-sequence, slice_get-middle}

module _ (plan : Plan) (is : IsPlan plan) where
  -- A cursor is at a command or at the end.
  cursor_within : (k : ℕ) (c : Cursor) → cursor_at plan k ≡ Some c → k ≤ length (sequence plan)
  cursor_within k c at = omega (arith, slice_get_within (cursors_of plan) k c at, length-cursors_of plan is)

  pub cursor_past : (k : ℕ) → length (commands_of plan) < k → cursor_at plan k ≡ None
  cursor_past k past = slice_get_past (cursors_of plan) k (omega (arith, length-cursors_of plan is, length-sequence plan))

  -- If there is no segment at a cursor, all commands have been sent.
  pub end_at : (k : ℕ) (c : Cursor) → cursor_at plan k ≡ Some c → segment_at plan c.app c.segment ≡ None → k ≡ length (commands_of plan)
  end_at k c at none = elim (cases_lt k (length (sequence plan))) [
    | inl before ↦ let there = segment_before plan is k c at before in absurd (none-some there.0 (sym none ∙ there.1))
    | inr after ↦ omega (arith, cursor_within k c at, length-sequence plan)
  ]

  end_cursor : (k : ℕ) (c : Cursor) → k ≡ length (sequence plan) → cursor_at plan k ≡ Some c → c ≡ select_cursor (length plan.applications)
  unfolding cursors_of
  end_cursor k c end at =
      let before : List Cursor = flat_map (application_cursors plan.max) (enumerate_from 0 plan.applications) in
      let last : Cursor = select_cursor (length plan.applications) in
      let place : k ≡ length before = omega (arith, length-cursors_of plan is, length_push before last) in
      same_Some c last (sym at ∙ slice_get-middle before last [] k place)

  pub IsCursor-at : (k : ℕ) (c : Cursor) → cursor_at plan k ≡ Some c → IsCursor c
  IsCursor-at k c at = elim (cases_lt k (length (sequence plan))) [
    | inl before ↦ let there = segment_before plan is k c at before in (fits_there plan is k c at there.0 there.1).ranges
    | inr after ↦
        let last : c ≡ select_cursor (length plan.applications) = end_cursor k c (omega (arith, cursor_within k c at)) at in
        let many : length plan.applications ≤ 4096 = is.many in
        subst IsCursor (sym last) (record { app = many; segment = omega arith; offset = omega arith; block = omega arith })
  ]

  -- There is no cursor after the end.
  pub past_at : (k : ℕ) → cursor_at plan k ≡ None → length (commands_of plan) < k
  past_at k none = elim (cases_lt (length (commands_of plan)) k) [
    | inl past ↦ past
    | inr within ↦
        absurd (none-some _ (sym none ∙ slice_get-get_or (cursors_of plan) k (select_cursor 0) (omega (arith, length-cursors_of plan is, length-sequence plan))))
  ]

  pub not_end : (k : ℕ) → cursor_at plan k ≡ None → false ≡ eqb k (length (commands_of plan))
  not_end k none = let past = past_at k none in sym (ne_eqb k (length (commands_of plan)) (λ e. omega arith))

  pub no_tolerance_past : (k : ℕ) → cursor_at plan k ≡ None → false ≡ is_tolerant (slice_get (commands_of plan) k)
  no_tolerance_past k none = let past = past_at k none in ap is_tolerant (sym (slice_get_past (commands_of plan) k (omega arith)))

  tolerance_of : (o : Option Command) (t : Bool) → option_map (λ (d : Command). d.is_tolerant_last) o ≡ Some t → t ≡ is_tolerant o
  tolerance_of None t e = absurd (none-some t e)
  tolerance_of (Some d) t e = sym (same_Some d.is_tolerant_last t e)

  pub tolerance_at : (k : ℕ) (t : Bool) → is_tolerant_last_at plan k ≡ Some t → t ≡ is_tolerant (slice_get (commands_of plan) k)
  tolerance_at k t e = tolerance_of (slice_get (commands_of plan) k) t e

  module _ (k : ℕ) (c : Cursor) (at : cursor_at plan k ≡ Some c) where
    pub no_tolerance_at_end : segment_at plan c.app c.segment ≡ None → false ≡ is_tolerant (slice_get (commands_of plan) k)
    no_tolerance_at_end none = let end = end_at k c at none in ap is_tolerant (sym (slice_get_past (commands_of plan) k (omega arith)))

    command_there : (v : PlacedSegment) → segment_at plan c.app c.segment ≡ Some v → k < length (commands_of plan)
    command_there v there = elim (cases_lt k (length (commands_of plan))) [
      | inl before ↦ before
      | inr after ↦
          let past = ap (option_map (λ (d : Command). d.is_tolerant_last)) (slice_get_past (commands_of plan) k after) in
          absurd (none-some _ (sym past ∙ tolerance_there plan is k c at v there))
    ]

    -- whether a view contains the segment at the cursor
    pub end_of_view : (view : Option SegmentView) (none : Bool) → option_map shown view ≡ segment_at plan c.app c.segment → is_some view ≡ not none
        → none ≡ eqb k (length (commands_of plan))
    end_of_view None true is e = sym (eq-eqb k (length (commands_of plan)) (end_at k c at (sym is)))
    end_of_view None false is e = absurd (cc)
    end_of_view (Some v) true is e = absurd (cc)
    end_of_view (Some v) false is e = let before = command_there (shown v) (sym is) in sym (ne_eqb k (length (commands_of plan)) (λ same. omega arith))

-- ---- status words

-- The last status word is tested with the command at its position.
pub last_stops-at : (commands : List Command) (k n : ℕ) (words : List ℕ) (w : ℕ) → length words ≡ suc n → slice_get words n ≡ Some w
    → last_stops_from commands k words ≡ not (goes_at commands (k + n) w)
last_stops-at commands k n [] w count at = absurd (omega arith)
last_stops-at commands k zero (x ∷ []) w count at =
    let here : k ≡ k + 0 = omega arith in
    ap (λ n. not (goes_at commands n x)) here ∙ ap (λ v. not (goes_at commands (k + 0) v)) (same_Some x w at)
last_stops-at commands k (suc n) (x ∷ []) w count at = absurd (omega arith)
last_stops-at commands k zero (x ∷ y ∷ words) w count at = absurd (omega arith)
last_stops-at commands k (suc n) (x ∷ y ∷ words) w count at =
    let here : (k + 1) + n ≡ k + suc n = omega arith in
    last_stops-at commands (k + 1) n (y ∷ words) w (omega arith) at ∙ ap (λ m. not (goes_at commands m w)) here

-- whether the last status word lets the session continue, from its position
pub last_stops-last : (commands : List Command) (words : List ℕ) (n w : ℕ) (goes tolerant : Bool) → length words ≡ n + 1 → slice_get words n ≡ Some w
    → goes ≡ goes_on w tolerant → tolerant ≡ is_tolerant (slice_get commands n) → not goes ≡ last_stops_from commands 0 words
last_stops-last commands words n w goes tolerant count at goes_is tolerant_is =
    let here : 0 + n ≡ n = omega arith in
    ap not (goes_is ∙ ap (goes_on w) tolerant_is)
    ∙ sym (last_stops-at commands 0 n words w (omega arith) at ∙ ap (λ m. not (goes_at commands m w)) here)
