-- Tables with the same rows.
use Rattle.std.proofs.Common.{List, IsPermutation}
use Rattle.std.proofs.lemmas.List.Sorted.{IsPermutation-refl}
use Rattle.job_facts.specs.Contents.{Entry, Mark}
use Rattle.table_rows.specs.Tables.{HaveSameRows, Tables}

-- Tables that differ only in the order of the kept replies and release marks have the same rows.
pub replies_move : (t : Tables) (es fs : List Entry) (ms ns : List Mark) → IsPermutation es fs → IsPermutation ms ns → HaveSameRows (record t { replies = es; marks = ms }) (record t { replies = fs; marks = ns })
replies_move t es fs ms ns replies marks = search IsPermutation-refl

-- Tables have the same rows as themselves.
pub itself : (t : Tables) → HaveSameRows t t
itself t = replies_move t t.replies t.replies t.marks t.marks (IsPermutation-refl t.replies) (IsPermutation-refl t.marks)
