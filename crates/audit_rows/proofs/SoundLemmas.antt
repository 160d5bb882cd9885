-- `HaveSameRows` is transitive and symmetric.
use Rattle.std.proofs.lemmas.List.Sorted.{IsPermutation-sym, IsPermutation-trans}
use Rattle.table_rows.specs.Tables.{HaveSameRows, Tables}

pub same_through : (t u v : Tables) → HaveSameRows t u → HaveSameRows u v → HaveSameRows t v
same_through t u v a b = search IsPermutation-trans

pub same_back : (t u : Tables) → HaveSameRows t u → HaveSameRows u t
same_back t u a = search IsPermutation-sym
