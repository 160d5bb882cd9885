use Rattle.row_laws.proofs.BlankRows.{blank_once, charged_found, charged_in_rows}
use Rattle.row_laws.proofs.blanks.blanks_by_serial.Goals as goal

pub returns : goal.returns
returns call = record { once = λ f n sound. blank_once f sound n; charged = charged_in_rows; found = charged_found }
