use Rattle.std.proofs.Common.{◌≡◌, IfErr, IfOk, subst, sym}
use Rattle.sqlite.specs.Held.{state}
use Rattle.over_tables.specs.Refusals.{Explains, ReportsStorage}
use Rattle.over_tables.specs.declared.fault.FileFault.TheVariants.{Storage}
use Rattle.book_file.specs.Found.{HasVerdict, IsFound}
use Rattle.book_file.proofs.Judging.{book_found, book_whole, fault_explains, storage_caused}
use Rattle.book_file.proofs.reading.read_book.Goals as goal

pub returns-clause-value : goal.returns-clause-value
returns-clause-value g c clean =
    let db = (state g.S.Store c.args.conn.now).now in
    subst (λ a. IfOk a (IsFound db)) (sym c.answer_of.ensures) (book_found c.sound_rows_are_audited.ensures db c.examine.result (c.examine.ensures.value clean))

pub returns-clause-verdict : goal.returns-clause-verdict
returns-clause-verdict g c =
    subst (λ a. IfOk a (λ book. HasVerdict book.tables book.failing)) (sym c.answer_of.ensures) (book_whole c.sound_rows_are_audited.ensures c.examine.result c.examine.ensures.whole)

pub returns-clause-why : goal.returns-clause-why
returns-clause-why g c clean =
    let db = (state g.S.Store c.args.conn.now).now in
    subst (λ a. IfErr a (Explains db)) (sym c.answer_of.ensures) (fault_explains db c.examine.result (c.examine.ensures.value clean))

pub returns-clause-storage : goal.returns-clause-storage
returns-clause-storage g c clean =
    let old = state g.S.Store c.args.conn.now in
    let new = state g.S.Store c.examine.new.conn in
    subst (λ a. IfErr a (λ fault. fault ≡ Storage → ReportsStorage g.S.Store old new)) (sym c.answer_of.ensures) (storage_caused g.S.Store old new c.examine.result (c.examine.ensures.looks.cause clean))

pub returns-clause-looks : goal.returns-clause-looks
returns-clause-looks g c =
    let looks = c.examine.ensures.looks in
    record { kept = looks.kept; idle = looks.idle; survives = looks.survives }
