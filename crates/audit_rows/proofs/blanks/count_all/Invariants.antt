use Rattle.std.proofs.Common.{◌≡◌, All, take}
use Rattle.std.specs.Prelude.{count_by}
use Rattle.job_facts.specs.States.{is_in}
use Rattle.table_rows.specs.Tables.{StoredLot}
use Rattle.audit_rows.proofs.blanks.count_all.Given as goal

abbrev pub invariant-loop-lot : goal.invariant-loop-lot
invariant-loop-lot l = All (λ (x : StoredLot). x.discarded ≡ count_by (λ serial. is_in serial x.lot) l.serials) (take l.lot-index l.lots)
