-- Rows that are inserted one after the other, under rowids that SQLite chooses.
use Rattle.std.proofs.Common.{◌≡◌, List, [], ◌∷◌, ◌++◌, map, drop, not, true, false, refl}
use Rattle.std.proofs.lemmas.Bool.{and_parts}
use Rattle.std.specs.List.Sorted.{IsPermutation}
use Rattle.std.proofs.lemmas.List.Sorted.{IsPermutation-append, IsPermutation-middle, IsPermutation-refl, IsPermutation-sym, IsPermutation-trans}
use Rattle.sqlite.specs.declared.types.Value.TheVariants.{Null}
use Rattle.sqlite.specs.Order.{Row}
use Rattle.sqlite.specs.Tree.{put_row}
use Rattle.sqlite.specs.Edit.{are_fresh, is_taken, numbered, put_all, with_rowid}
use Rattle.sqlite.specs.Rowids.TheVariants.{Chosen}
use Rattle.sql_base.specs.Rowids.{AreApart}
use Rattle.sql_base.proofs.Inserting.{one_fresh}
use Rattle.sql_base.proofs.Rowids.{put_apart}
use Rattle.sql_base.proofs.Values.{one_more}

-- a row without a rowid yet
abbrev pub unnumbered_row : Row → Row
unnumbered_row row = Null ∷ row

-- the rows with the rowids that SQLite chooses, in a table with the rows `stored`
abbrev pub chosen : List Row → List Row → List Row
chosen stored rows = numbered Chosen stored (map unnumbered_row rows)

pub many_more : (rows stored : List Row) → are_fresh stored (chosen stored rows) ≡ true → AreApart stored
    → IsPermutation (rows ++ map (drop 1) stored) (map (drop 1) (put_all stored (chosen stored rows))) × AreApart (put_all stored (chosen stored rows))
many_more [] stored fresh apart = (IsPermutation-refl _, apart)
many_more (row ∷ rows) stored fresh apart =
    let new : Row = with_rowid Chosen stored (unnumbered_row row) in
    let more = put_row new stored in
    let parts = and_parts (not (is_taken stored new)) (are_fresh more (chosen more rows)) fresh in
    let free : is_taken stored new ≡ false = one_fresh stored new (rw (parts.0) refl) in
    let it = many_more rows more parts.1 (put_apart new stored refl free apart) in
    let first = IsPermutation-sym _ _ (IsPermutation-middle rows row (map (drop 1) stored)) in
    let second = IsPermutation-append rows rows _ _ (IsPermutation-refl rows) (one_more row stored more refl free) in
    (IsPermutation-trans _ _ _ first (IsPermutation-trans _ _ _ second it.0), it.1)
