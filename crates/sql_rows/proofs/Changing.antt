-- Rows of one table are changed or removed. The statement selects rows by their values.
use Rattle.std.proofs.Common.{◌≡◌, Bool, List, ◌∷◌, cond, drop, filter, map, not, sym, subst, ◌∙◌}
use Rattle.std.specs.List.Sorted.{IsPermutation}
use Rattle.std.proofs.lemmas.List.Sorted.{IsPermutation-map, IsPermutation-trans}
use Rattle.sqlite.specs.declared.types.Value.{Value}
use Rattle.sqlite.specs.declared.types.Value.TheVariants.{Null}
use Rattle.sqlite.specs.Cast.{cast_row}
use Rattle.sqlite.specs.Order.{Row}
use Rattle.sqlite.specs.State.{State}
use Rattle.sqlite.specs.Table.{Table}
use Rattle.sql_base.specs.Effects.{Deleted, Updated}
use Rattle.sql_base.specs.Rowids.{AreApart}
use Rattle.sql_base.proofs.Changing.{rows_left, rows_updated}
use Rattle.sql_base.proofs.Replacing.{KeepsRowid}
use Rattle.sql_base.proofs.Typed.{given_changed, given_left, typed_left, typed_set}
use Rattle.sql_tables.specs.Tables.{our_schema}
use Rattle.sql_rows.specs.Image.{IsFilled, by_rowid, unnumbered}

module _ {X : Type 0} (table : Table) (encode : X → Row) (hit : Row → Bool) (show : Row → Row) (test : X → Bool) (keeps : KeepsRowid show) where
  -- a row as it is put back, from its result in the query
  abbrev put_back : Row → Row
  put_back s = cast_row table (drop 1 s)

  module _ (change : X → X) (keeps_put : KeepsRowid (λ r. put_back (show r))) (xs : List X) (old new : State) (it : Updated our_schema table hit show old new) where
    abbrev changed : List X
    changed = map (λ x. cond (test x) (change x) x) xs

    -- rows with their rowids
    pub rows_set : ((x : X) → hit (encode x) ≡ test x) → ((x : X) → put_back (show (encode x)) ≡ encode (change x))
        → IsFilled (by_rowid table (map encode xs)) old.now.trees → IsFilled (by_rowid table (map encode changed)) new.now.trees
    rows_set typed_hit typed_change is =
        let db = old.now.trees table.tree in
        let made = rows_updated hit show put_back db it.found is.apart it.all keeps keeps_put in
        let typed = typed_set encode hit test typed_hit (λ r. put_back (show r)) change typed_change xs db is.rows in
        record {
          rows = subst (IsPermutation (map encode changed)) (sym it.rows) (IsPermutation-trans _ _ _ typed made.0);
          apart = subst AreApart (sym it.rows) made.1;
        }

    -- rows without their rowids
    pub unnumbered_set : ((x : X) → hit (Null ∷ encode x) ≡ test x) → ((x : X) → drop 1 (put_back (show (Null ∷ encode x))) ≡ encode (change x))
        → ((v : Value) (r : Row) → hit (v ∷ r) ≡ hit (Null ∷ r)) → ((v : Value) (r : Row) → drop 1 (put_back (show (v ∷ r))) ≡ drop 1 (put_back (show (Null ∷ r))))
        → IsFilled (unnumbered table (map encode xs)) old.now.trees → IsFilled (unnumbered table (map encode changed)) new.now.trees
    unnumbered_set typed_hit typed_change blind_hit blind_put is =
        let db = old.now.trees table.tree in
        let bare_hit = λ (r : Row). hit (Null ∷ r) in
        let bare_put = λ (r : Row). drop 1 (put_back (show (Null ∷ r))) in
        let made = rows_updated hit show put_back db it.found is.apart it.all keeps keeps_put in
        let typed = typed_set encode bare_hit test typed_hit bare_put change typed_change xs (map (drop 1) db) is.rows in
        let given_rows = subst (IsPermutation (map encode changed)) (sym (given_changed bare_hit hit blind_hit bare_put (λ r. put_back (show r)) blind_put db is.apart.ints)) typed in
        record {
          rows = subst (λ rows. IsPermutation (map encode changed) (map (drop 1) rows)) (sym it.rows) (IsPermutation-trans _ _ _ given_rows (IsPermutation-map (drop 1) _ _ made.0));
          apart = subst AreApart (sym it.rows) made.1;
        }

  -- The rows that pass are removed.
  pub unnumbered_gone : ((x : X) → hit (Null ∷ encode x) ≡ test x) → ((v : Value) (r : Row) → hit (v ∷ r) ≡ hit (Null ∷ r))
      → (xs : List X) (old new : State) → Deleted our_schema table hit show old new
      → IsFilled (unnumbered table (map encode xs)) old.now.trees → IsFilled (unnumbered table (map encode (filter (λ x. not (test x)) xs))) new.now.trees
  unnumbered_gone typed_hit blind_hit xs old new it is =
      let db = old.now.trees table.tree in
      let bare_hit = λ (r : Row). hit (Null ∷ r) in
      let left = rows_left hit show db it.found is.apart it.all keeps in
      let typed = typed_left encode bare_hit test typed_hit xs (map (drop 1) db) is.rows in
      let given_rows = sym (given_left bare_hit hit blind_hit db is.apart.ints) in
      let rows_are = it.rows ∙ left.0 in
      record {
        rows = subst (λ rows. IsPermutation (map encode (filter (λ x. not (test x)) xs)) (map (drop 1) rows)) (sym rows_are) (subst (IsPermutation (map encode (filter (λ x. not (test x)) xs))) given_rows typed);
        apart = subst AreApart (sym it.rows) left.1;
      }
