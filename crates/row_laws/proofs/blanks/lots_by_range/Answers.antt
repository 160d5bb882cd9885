use Rattle.row_laws.proofs.BlankRows.{lot_around, lot_around_once, lot_of_in_rows, overlaps_found, overlaps_in_rows, own_name_found}
use Rattle.row_laws.proofs.blanks.lots_by_range.Goals as goal

pub returns : goal.returns
returns call = record {
  once = λ f serial sound. lot_around_once f sound serial;
  found = lot_around;
  lot = lot_of_in_rows;
  named = λ f serial l sound. own_name_found f sound serial l;
  overlaps = overlaps_in_rows;
  shares = overlaps_found;
}
