-- The result of opening a database, from the result of examining it.
use Rattle.std.specs.Prelude.{Result, Ok, Err, None, Some}
use Rattle.sqlite.specs.declared.error.Error.{Error}
use Rattle.examination.specs.declared.damage.Damage.TheVariants.{Broken, UnreadableRow}
use Rattle.examination.specs.declared.finding.ExaminedRows.{ExaminedRows}
use Rattle.examination.specs.declared.finding.Finding.{Finding}
use Rattle.examination.specs.declared.finding.Finding.TheVariants.{NotOurs, Read, Unreadable}
use Rattle.adoption.specs.Faults.{fault_for}
use Rattle.adoption.specs.declared.faults.OpenFault.{OpenFault}
use Rattle.adoption.specs.declared.faults.OpenFault.TheVariants as fault

-- the rows of sound contents; otherwise refusal 81 with the difference of the tables, refusal 82
-- with the damage to the rows, or the fault for the error of the examination
abbrev pub rows_taken : Result Finding Error → Result ExaminedRows OpenFault
rows_taken (Ok (NotOurs difference)) = Err (fault.NotOurs difference)
rows_taken (Ok Unreadable) = Err (fault.Damaged UnreadableRow)
rows_taken (Ok (Read rows None)) = Ok rows
rows_taken (Ok (Read rows (Some rule))) = Err (fault.Damaged (Broken rule))
rows_taken (Err error) = Err (fault.Store (fault_for error))
