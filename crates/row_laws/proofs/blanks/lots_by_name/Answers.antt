use Rattle.row_laws.proofs.BlankRows.{discarded_in_rows, lot_name_once, lot_named_in_rows, lots_are, named_lot}
use Rattle.row_laws.proofs.blanks.lots_by_name.Goals as goal

pub returns : goal.returns
returns call = record {
  once = λ f n sound. lot_name_once f sound n;
  found = named_lot;
  lot = lot_named_in_rows;
  all = lots_are;
  discarded = discarded_in_rows;
}
