use Rattle.std.proofs.Common.{rules, w64, arith}
use Rattle.std.proofs.lemmas.Int.{ints, to_z-of_z}
use Rattle.table_reads.proofs.rowids.fn.sort_rowids.sort_by_key+FnOnce.call_once.Goals as goal

pub returns : goal.returns
returns c = let inv = c.sort_by_key.type_inv in (tt, rw (to_z-of_z w64 c.sort_by_key.result (first_of (omega (arith, ints), search rules))) c.sort_by_key.ensures)
