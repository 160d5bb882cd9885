-- The rows after a batch is closed.
use Rattle.std.proofs.Common.{◌≡◌, ℕ, ◌||◌, true, cond, List, [], ◌∷◌, map, inl, inr, refl, sym, ap, ◌∙◌}
use Rattle.std.specs.Prelude.{bytes_eq}
use Rattle.std.proofs.Math.Bool.{or-false}
use Rattle.std.proofs.lemmas.Bool.{cases_Bool, or_right}
use Rattle.std.proofs.lemmas.List.Folds.{list_any-append}
use Rattle.std.proofs.lemmas.Simd.{map-map}
use Rattle.job_facts.specs.declared.change.Change.TheVariants as change
use Rattle.job_facts.specs.Accounts.{batch_totals}
use Rattle.job_facts.specs.Contents.{Contents}
use Rattle.job_facts.specs.Facts.{Batch, Facts, with_close}
use Rattle.job_facts.specs.Sound.{IsSound, changed}
use Rattle.job_facts.specs.States.{is_closed}
use Rattle.job_facts.proofs.Lists.{map_same}
use Rattle.step_laws.specs.Later.{KnowsMore}
use Rattle.step_laws.specs.Records.{StandsSame}
use Rattle.step_laws.proofs.ChangeStands.{others_same}
use Rattle.step_laws.proofs.Kept.{no_more, one_more}
use Rattle.table_rows.specs.After.{rows_after}
use Rattle.table_rows.specs.Tables.{HaveSameRows, StoredBatch, closed_set}
use Rattle.table_rows.specs.declared.writing.Writing.TheVariants as writing
use Rattle.image_laws.specs.Image.{batch_by, batches_by_id, image, stored_batch, stored_batches, stored_blanks, stored_lots}
use Rattle.image_laws.proofs.Lists.{knows_later, unmoved}
use Rattle.image_laws.proofs.Staying.{rows_stay, session_states_same, totals_same}

module _ (f : Facts) (name : List ℕ) where
  abbrev with_closed : Facts
  with_closed = with_close f name

  knows : KnowsMore f with_closed
  knows = knows_later f _ _ _ (no_more f.discarded) (one_more f.closed name)

  stand : IsSound f → (b r : List ℕ) → StandsSame f with_closed b r
  stand sound b r = others_same f (change.Closes name) sound tt b r refl

  is_closed_now : (b : List ℕ) → is_closed with_closed b ≡ (is_closed f b || bytes_eq b name)
  is_closed_now b = list_any-append (bytes_eq b) f.closed (name ∷ []) ∙ ap (λ t. is_closed f b || t) (or-false (bytes_eq b name))

  -- the row of a batch after the close
  batch_row : IsSound f → (e : ℕ × Batch) → stored_batch with_closed e ≡ closed_set name (stored_batch f e)
  batch_row sound e =
      let b = e.1.name in
      let row : StoredBatch = stored_batch f e in
      let more = knows in
      let totals : batch_totals with_closed b ≡ batch_totals f b =
      totals_same f with_closed sound more refl (stand sound) (session_states_same f with_closed sound more refl (stand sound) refl) b in
      let now : stored_batch with_closed e ≡ batch_by e (is_closed f b || bytes_eq b name) (batch_totals f b) =
      ap (λ c. batch_by e c (batch_totals with_closed b)) (is_closed_now b) ∙ ap (batch_by e (is_closed f b || bytes_eq b name)) totals in
      elim (cases_Bool (bytes_eq b name)) [
        | inl hit ↦
            now ∙ ap (λ c. batch_by e c (batch_totals f b)) (or_right (is_closed f b) (bytes_eq b name) hit)
            ∙ sym (ap (λ t. cond t (record row { closed = true }) row) hit)
        | inr miss ↦
            now ∙ ap (λ t. batch_by e (is_closed f b || t) (batch_totals f b)) miss ∙ ap (λ c. batch_by e c (batch_totals f b)) (or-false (is_closed f b))
            ∙ sym (ap (λ t. cond t (record row { closed = true }) row) miss)
      ]

  batches_set : IsSound f → stored_batches with_closed ≡ map (closed_set name) (stored_batches f)
  unfolding stored_batches
  batches_set sound =
      map_same (stored_batch with_closed) (λ e. closed_set name (stored_batch f e)) (batches_by_id f) (λ k d within. batch_row sound _)
      ∙ sym (map-map (closed_set name) (stored_batch f) (batches_by_id f))

pub rows_after_close : (c : Contents) (name : List ℕ) → IsSound c.facts
    → HaveSameRows (image (record c { facts = changed c.facts (change.Closes name) })) (rows_after (writing.Closes name) (image c))
unfolding stored_lots stored_blanks
rows_after_close c name sound =
    let f = c.facts in
    let g = with_close f name in
    let stands : (b r : List ℕ) → StandsSame f g b r = stand f name sound in
    rows_stay f g sound (knows f name) refl stands refl c.kept c.marks (unmoved _ _ refl) (unmoved _ _ refl) (unmoved _ _ (batches_set f name sound)) (unmoved _ _ refl)
