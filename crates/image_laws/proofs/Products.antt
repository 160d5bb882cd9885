-- The rows after a reply is kept, and after a product is added.
use Rattle.std.proofs.Common.{ℕ, List, refl}
use Rattle.store_data.specs.declared.row.Product.{Product}
use Rattle.job_facts.specs.declared.change.Change.TheVariants as change
use Rattle.job_facts.specs.Contents.{Contents, Entry, committed}
use Rattle.job_facts.specs.Facts.{with_product}
use Rattle.job_facts.specs.Sound.{IsSound, changed}
use Rattle.step_laws.specs.Records.{StandsSame}
use Rattle.step_laws.proofs.ChangeStands.{others_same}
use Rattle.step_laws.proofs.Kept.{product_knows}
use Rattle.table_rows.specs.After.{rows_after}
use Rattle.table_rows.specs.Tables.{HaveSameRows}
use Rattle.table_rows.specs.Tables as tables
use Rattle.table_rows.specs.declared.writing.Writing.TheVariants as writing
use Rattle.table_rows.proofs.Same.{replies_move}
use Rattle.image_laws.specs.Image.{image, stored_blanks, stored_lots}
use Rattle.image_laws.proofs.Lists.{pushed, unmoved}
use Rattle.image_laws.proofs.Staying.{batches_stay, rows_stay, session_states_same}

pub rows_with_reply : (c : Contents) (entry : Entry) → HaveSameRows (image (committed c change.Nothing entry)) (tables.with_reply entry (image c))
rows_with_reply c entry = replies_move (image c) _ _ _ _ (pushed c.kept entry) (unmoved _ _ refl)

pub rows_after_product : (c : Contents) (p : Product) → IsSound c.facts
    → HaveSameRows (image (record c { facts = changed c.facts (change.AddsProduct p) })) (rows_after (writing.AddsProduct p) (image c))
unfolding stored_lots stored_blanks
rows_after_product c p sound =
    let f = c.facts in
    let g = with_product f p in
    let stands : (b r : List ℕ) → StandsSame f g b r = λ b r. others_same f (change.AddsProduct p) sound tt b r refl in
    let more = product_knows f p in
    rows_stay f g sound more refl stands refl c.kept c.marks (pushed f.products p) (unmoved _ _ refl)
    (unmoved _ _ (batches_stay f g sound more refl stands (session_states_same f g sound more refl stands refl) refl)) (unmoved _ _ refl)
