-- A typed row whose numbers are in range is stored as a row with the shape of its table.
use Rattle.std.proofs.Common.{◌≡◌, ◌<◌, Bool, true, false, [], ◌∷◌, refl, sym, ap, subst, ◌∙◌, arith}
use Rattle.sqlite.specs.Order.{Row, column}
use Rattle.sqlite.specs.declared.types.Value.{Value}
use Rattle.store_data.specs.declared.row.Enc.{Enc}
use Rattle.store_data.specs.declared.row.Enc.TheVariants as enc
use Rattle.store_data.specs.declared.row.Product.{Product}
use Rattle.job_facts.specs.declared.facts.RecordState.{RecordState}
use Rattle.job_facts.specs.declared.facts.RecordState.TheVariants as rec
use Rattle.job_facts.specs.declared.facts.SessionState.{SessionState}
use Rattle.job_facts.specs.declared.facts.SessionState.TheVariants as session
use Rattle.job_facts.specs.Contents.{Entry, Mark}
use Rattle.table_rows.specs.Tables.{StoredBatch, StoredBlank, StoredGrouping, StoredLot, StoredRecord, StoredRemake, StoredSession, StoredWord}
use Rattle.sql_rows.specs.Encoding.{batch_row, blank_row, enc_code, flag, grouping_row, lot_row, mark_row, product_row, record_code, record_row, remake_row, reply_row, session_code, session_row, word_row}
use Rattle.table_reads.specs.Shown.{FitsGrouping, FitsLot, FitsProduct, FitsWord, IsAny, IsBatchRow, IsBlankRow, IsGroupingRow, IsLotRow, IsMarkRow, IsProductRow, IsRecordRow, IsRemakeRow, IsReplyRow, IsSessionRow, IsWordRow}
use Rattle.table_reads.specs.Whole.{as_stored}

flag_low : (b : Bool) → flag b < 2
flag_low true = omega arith
flag_low false = omega arith

record_low : (s : RecordState) → record_code s < 5
record_low rec.Waiting = omega arith
record_low rec.Running = omega arith
record_low rec.Failed = omega arith
record_low rec.Withdrawn = omega arith
record_low rec.Good = omega arith

session_low : (s : SessionState) → session_code s < 3
session_low session.Running = omega arith
session_low session.Good = omega arith
session_low session.Spoiled = omega arith

enc_low : (e : Enc) → enc_code e < 3
enc_low enc.Plain = omega arith
enc_low enc.All = omega arith
enc_low enc.Mixed = omega arith

-- a stored row without the NULL in the column of its rowid
abbrev pub without_null : Row → Row
without_null [] = []
without_null (id ∷ []) = id ∷ []
without_null (id ∷ hidden ∷ row) = id ∷ row

pub taken : (r : Row) → r ≡ without_null (as_stored true r)
taken [] = refl
taken (id ∷ row) = refl

led : (r : Row) (v : Value) (vs : Row) → as_stored false r ≡ v ∷ vs → r ≡ column r 0 ∷ v ∷ vs
led [] v vs e = absurd (cc)
led (id ∷ row) v vs e = ap (λ rest. id ∷ rest) e

pub product_law : (x : Product) → FitsProduct x → (r : Row) → as_stored false r ≡ product_row x → IsProductRow r
unfolding IsProductRow
product_law x fits r e = subst IsProductRow (sym (led r _ _ e)) (refl, refl, (refl, fits.0), (refl, fits.1), (refl, flag_low x.check))

pub lot_law : (x : StoredLot) → FitsLot x → (r : Row) → as_stored false r ≡ lot_row x → IsLotRow r
unfolding IsLotRow
lot_law x fits r e = subst IsLotRow (sym (led r _ _ e)) (refl, refl, refl, refl, (refl, fits), refl)

pub batch_law : (x : StoredBatch) → IsAny x → (r : Row) → as_stored true r ≡ batch_row x → IsBatchRow r
unfolding IsBatchRow
batch_law x fits r e = subst IsBatchRow (sym (taken r ∙ ap without_null e)) (refl, refl, refl, refl, refl, (refl, flag_low x.closed), refl, refl, refl, refl, refl, refl, refl)

pub record_law : (x : StoredRecord) → IsAny x → (r : Row) → as_stored false r ≡ record_row x → IsRecordRow r
unfolding IsRecordRow
record_law x fits r e = subst IsRecordRow (sym (led r _ _ e)) (refl, refl, refl, refl, (refl, record_low x.state), refl, refl)

pub grouping_law : (x : StoredGrouping) → FitsGrouping x → (r : Row) → as_stored false r ≡ grouping_row x → IsGroupingRow r
unfolding IsGroupingRow
grouping_law x fits r e = subst IsGroupingRow (sym (led r _ _ e)) (refl, refl, refl, refl, refl, (refl, fits), (refl, enc_low x.enc), (refl, flag_low x.tol), refl)

pub session_law : (x : StoredSession) → IsAny x → (r : Row) → as_stored true r ≡ session_row x → IsSessionRow r
unfolding IsSessionRow
session_law x fits r e = subst IsSessionRow (sym (taken r ∙ ap without_null e)) (refl, refl, refl, refl, refl, refl, (refl, session_low x.state), (refl, flag_low x.ended), refl, refl, refl, refl, refl)

pub word_law : (x : StoredWord) → FitsWord x → (r : Row) → as_stored false r ≡ word_row x → IsWordRow r
unfolding IsWordRow
word_law x fits r e = subst IsWordRow (sym (led r _ _ e)) (refl, refl, refl, (refl, fits))

pub blank_law : (x : StoredBlank) → IsAny x → (r : Row) → as_stored true r ≡ blank_row x → IsBlankRow r
unfolding IsBlankRow
blank_law x fits r e = subst IsBlankRow (sym (taken r ∙ ap without_null e)) (refl, refl, refl, (refl, flag_low x.discarded))

pub remake_law : (x : StoredRemake) → IsAny x → (r : Row) → as_stored false r ≡ remake_row x → IsRemakeRow r
unfolding IsRemakeRow
remake_law x fits r e = subst IsRemakeRow (sym (led r _ _ e)) (refl, refl, refl, refl)

pub reply_law : (x : Entry) → IsAny x → (r : Row) → as_stored false r ≡ reply_row x → IsReplyRow r
unfolding IsReplyRow
reply_law x fits r e = subst IsReplyRow (sym (led r _ _ e)) (refl, refl, refl, refl, refl, refl)

pub mark_law : (x : Mark) → IsAny x → (r : Row) → as_stored false r ≡ mark_row x → IsMarkRow r
unfolding IsMarkRow
mark_law x fits r e = subst IsMarkRow (sym (led r _ _ e)) (refl, refl, refl)
