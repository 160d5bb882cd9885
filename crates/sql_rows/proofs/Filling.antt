-- The rows of one table change, and all other tables keep their rows.
use Rattle.std.proofs.Common.{◌≡◌, ◌≢◌, ℕ, pos, true, List, [], ◌∷◌, ◌++◌, drop, map, not, ◌==◌, arith, refl, sym, subst}
use Rattle.std.specs.List.{AllByRecursion, list_all}
use Rattle.std.proofs.lemmas.Bool.{and_parts}
use Rattle.std.proofs.lemmas.Bool.Decides.{nat_tests}
use Rattle.std.specs.List.Sorted.{IsPermutation}
use Rattle.std.proofs.lemmas.List.Sorted.{IsPermutation-append, IsPermutation-cons, IsPermutation-refl, IsPermutation-trans}
use Rattle.sqlite.specs.declared.types.Value.TheVariants.{Int}
use Rattle.sqlite.specs.Effect.{IsDatabase}
use Rattle.sqlite.specs.Order.{Row}
use Rattle.sqlite.specs.State.{State}
use Rattle.sqlite.specs.Table.{Table}
use Rattle.sqlite.specs.Tree.{Trees}
use Rattle.sql_base.specs.Effects.{Inserted, SparesOthers}
use Rattle.sql_base.specs.Rowids.{AreApart}
use Rattle.sql_base.proofs.Inserting.{one_fresh, put_fresh}
use Rattle.sql_base.proofs.Numbering.{many_more, unnumbered_row}
use Rattle.sql_base.proofs.Rowids.{put_apart}
use Rattle.sql_tables.specs.Tables.{our_schema}
use Rattle.table_rows.specs.Tables.{Tables}
use Rattle.sql_rows.specs.Image.{Filled, IsFilled, IsImage, by_rowid, filled, given_rows, unnumbered}

module _ (key : ℕ) (old new : Trees) where
  -- The table keeps its rows, unless its tree is `key`.
  abbrev Stays : Table → Type 0
  Stays table = table.tree ≢ key → new table.tree ≡ old table.tree

  -- The table has another tree than `key`.
  abbrev IsOther : Filled → Type 0
  IsOther x = x.table.tree ≢ key

  stays : (x : Filled) → new x.table.tree ≡ old x.table.tree → IsFilled x old → IsFilled x new
  stays x same is = record {
    rows = subst (λ rows. IsPermutation x.rows (given_rows x.by_rowid rows)) (sym same) is.rows;
    apart = subst AreApart (sym same) is.apart;
  }

  others_stay : (xs : List Filled) → AllByRecursion IsOther xs → AllByRecursion Stays (map (λ (x : Filled). x.table) xs) → AllByRecursion (λ x. IsFilled x old) xs
      → AllByRecursion (λ x. IsFilled x new) xs
  others_stay [] other spared each = tt
  others_stay (x ∷ xs) other spared each = (stays x (spared.0 other.0) each.0, others_stay xs other.1 spared.1 each.1)

  -- one table with other rows
  pub filled_at : (before after : List Filled) (x y : Filled) → AllByRecursion IsOther before → AllByRecursion IsOther after
      → AllByRecursion Stays (map (λ (z : Filled). z.table) (before ++ x ∷ after))
      → AllByRecursion (λ z. IsFilled z old) (before ++ x ∷ after) → (IsFilled x old → IsFilled y new) → AllByRecursion (λ z. IsFilled z new) (before ++ y ∷ after)
  filled_at [] after x y left right spared each moves = (moves each.0, others_stay after right spared.1 each.1)
  filled_at (z ∷ before) after x y left right spared each moves = (stays z (spared.0 left.0) each.0, filled_at before after x y left.1 right spared.1 each.1 moves)

apart_by : (key : ℕ) (xs : List Filled) → list_all (λ (x : Filled). not (x.table.tree == key)) xs ≡ true → AllByRecursion (λ (x : Filled). x.table.tree ≢ key) xs
apart_by key [] ok = tt
apart_by key (x ∷ xs) ok =
    let parts = and_parts (not (x.table.tree == key)) (list_all (λ (z : Filled). not (z.table.tree == key)) xs) ok in
    (differ x.table.tree key parts.0, apart_by key xs parts.1)
  where
    differ : (m n : ℕ) → not (m == n) ≡ true → m ≢ n
    differ m n is same = grind (arith, nat_tests)

module _ (before after : List Filled) (table : Table) (left : list_all (λ (x : Filled). not (x.table.tree == table.tree)) before ≡ true)
    (right : list_all (λ (x : Filled). not (x.table.tree == table.tree)) after ≡ true) (t u : Tables) (old new : State) where
  -- If the statement changes only one table, the new rows of this table make an image.
  pub refilled : (x y : Filled) → x.table ≡ table → filled t ≡ before ++ x ∷ after → filled u ≡ before ++ y ∷ after
      → map (λ (z : Filled). z.table) (before ++ x ∷ after) ≡ our_schema.tables → new.now.schema ≡ our_schema → IsDatabase new.now
      → SparesOthers our_schema table old.now.trees new.now.trees → (IsFilled x old.now.trees → IsFilled y new.now.trees) → IsImage t old.now → IsImage u new.now
  refilled x y is_table is_t is_u are_ours ours sound spared moves image =
      record {
        ours = ours;
        is_database = sound;
        each = subst (AllByRecursion (λ z. IsFilled z new.now.trees)) (sym is_u)
            (filled_at table.tree old.now.trees new.now.trees before after x y (apart_by table.tree before left) (apart_by table.tree after right)
            (subst (AllByRecursion (Stays table.tree old.now.trees new.now.trees)) (sym are_ours) spared)
            (subst (AllByRecursion (λ z. IsFilled z old.now.trees)) is_t image.each) moves);
      }

-- more rows, under rowids that SQLite chooses
pub rows_put : (table : Table) (news rows : List Row) (old new : State) → Inserted our_schema table (map unnumbered_row news) old new
    → IsFilled (unnumbered table rows) old.now.trees → IsFilled (unnumbered table (news ++ rows)) new.now.trees
rows_put table news rows old new it is =
    let stored = old.now.trees table.tree in
    let more = many_more news stored it.fresh is.apart in
    record {
      rows =
          subst (λ all. IsPermutation (news ++ rows) (map (drop 1) all)) (sym it.rows)
          (IsPermutation-trans _ _ _ (IsPermutation-append news news _ _ (IsPermutation-refl news) is.rows) more.0);
      apart = subst AreApart (sym it.rows) more.1;
    }

-- one more row, under the rowid that the statement contains
pub row_put_under : (table : Table) (id : ℕ) (row : Row) (rows : List Row) (old new : State) → Inserted our_schema table ((Int (pos id) ∷ row) ∷ []) old new
    → IsFilled (by_rowid table rows) old.now.trees → IsFilled (by_rowid table ((Int (pos id) ∷ row) ∷ rows)) new.now.trees
row_put_under table id row rows old new it is =
    let stored = old.now.trees table.tree in
    let whole : Row = Int (pos id) ∷ row in
    let free = one_fresh stored whole it.fresh in
    record {
      rows = subst (IsPermutation (whole ∷ rows)) (sym it.rows) (IsPermutation-trans _ _ _ (IsPermutation-cons whole _ _ is.rows) (put_fresh whole stored free));
      apart = subst AreApart (sym it.rows) (put_apart whole stored refl free is.apart);
    }
