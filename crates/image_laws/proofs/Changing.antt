-- The rows after any change.
use Rattle.std.proofs.Common.{◌≡◌, sym, subst}
use Rattle.job_facts.specs.declared.change.Change.{Change}
use Rattle.job_facts.specs.declared.change.Change.TheVariants as change
use Rattle.job_facts.specs.declared.facts.SessionState.TheVariants as session
use Rattle.job_facts.specs.Contents.{Contents}
use Rattle.job_facts.specs.Sound.{IsSound, IsSoundChange, changed}
use Rattle.table_rows.specs.After.{rows_after}
use Rattle.table_rows.specs.Tables.{HaveSameRows}
use Rattle.table_rows.specs.declared.writing.Writing.{Writing}
use Rattle.table_rows.proofs.Same.{itself}
use Rattle.image_laws.specs.WritingOf.{IsWritingOf}
use Rattle.image_laws.specs.Image.{image}
use Rattle.image_laws.proofs.Closing.{rows_after_close}
use Rattle.image_laws.proofs.Ending.{rows_after_end}
use Rattle.image_laws.proofs.Importing.{rows_after_batch}
use Rattle.image_laws.proofs.Lots.{rows_after_discard, rows_after_lot}
use Rattle.image_laws.proofs.Opening.{rows_after_opening}
use Rattle.image_laws.proofs.Products.{rows_after_product}
use Rattle.image_laws.proofs.Remaking.{rows_after_remake, rows_after_withdrawal}
use Rattle.image_laws.proofs.Words.{rows_after_last_word, rows_after_word}

-- The rows after `change` are the rows after executing `w`.
abbrev AreAfter : Contents → Change → Writing → Type 0
AreAfter c change w = HaveSameRows (image (record c { facts = changed c.facts change })) (rows_after w (image c))

by : (c : Contents) (change : Change) (w v : Writing) → w ≡ v → AreAfter c change v → AreAfter c change w
by c change w v is after = subst (AreAfter c change) (sym is) after

pub rows_after_change_are : (c : Contents) (change : Change) (w : Writing) → IsSound c.facts → IsSoundChange c.facts change → IsWritingOf c.facts change w
    → HaveSameRows (image (record c { facts = changed c.facts change })) (rows_after w (image c))
rows_after_change_are c change.Nothing w sound keeps is = by c change.Nothing w _ is (itself (image c))
rows_after_change_are c (change.AddsProduct p) w sound keeps is = by c (change.AddsProduct p) w _ is (rows_after_product c p sound)
rows_after_change_are c (change.AddsLot l) w sound keeps is = by c (change.AddsLot l) w _ is (rows_after_lot c l sound keeps)
rows_after_change_are c (change.AddsBatch b) w sound keeps is = by c (change.AddsBatch b) w _ is (rows_after_batch c b sound keeps)
rows_after_change_are c (change.Opens s b r) w sound keeps is = by c (change.Opens s b r) w _ is.2 (rows_after_opening c s b r is.0 sound keeps is.1)
rows_after_change_are c (change.AddsWord word b r session.Running) w sound keeps is =
    by c (change.AddsWord word b r session.Running) w _ is (rows_after_word c word b r sound keeps)
rows_after_change_are c (change.AddsWord word b r session.Good) w sound keeps is =
    by c (change.AddsWord word b r session.Good) w _ is.2 (rows_after_last_word c word b r session.Good is.0 (λ e. cc) sound keeps is.1)
rows_after_change_are c (change.AddsWord word b r session.Spoiled) w sound keeps is =
    by c (change.AddsWord word b r session.Spoiled) w _ is.2 (rows_after_last_word c word b r session.Spoiled is.0 (λ e. cc) sound keeps is.1)
rows_after_change_are c (change.Ends s) w sound keeps is = by c (change.Ends s) w _ is.2 (rows_after_end c s is.0 sound keeps is.1)
rows_after_change_are c (change.Discards blank lot) w sound keeps is = by c (change.Discards blank lot) w _ is.2 (rows_after_discard c blank lot is.0 sound keeps is.1)
rows_after_change_are c (change.Remakes b r) w sound keeps is = by c (change.Remakes b r) w _ is.2 (rows_after_remake c b r is.0 sound keeps is.1)
rows_after_change_are c (change.Withdraws b r was) w sound keeps is = by c (change.Withdraws b r was) w _ is.2 (rows_after_withdrawal c b r was is.0 sound keeps is.1)
rows_after_change_are c (change.Closes b) w sound keeps is = by c (change.Closes b) w _ is (rows_after_close c b sound)
