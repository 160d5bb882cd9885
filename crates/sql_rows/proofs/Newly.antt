-- Newly created tables contain no row except the row of `version`.
use Rattle.std.proofs.Common.{◌≡◌, [], ◌∷◌, Bool, true, false, refl, sym, ap, subst}
use Rattle.std.specs.List.Sorted.{IsPermutation}
use Rattle.std.proofs.lemmas.List.Sorted.{IsPermutation-refl}
use Rattle.sqlite.specs.Effect.{Database}
use Rattle.sqlite.specs.Table.{Table}
use Rattle.sqlite.specs.Tree.{Trees}
use Rattle.sql_base.specs.Rowids.{AreApart}
use Rattle.sql_tables.specs.Opening.{IsNewlyMade, version_row}
use Rattle.sql_tables.specs.Tables.{version_table}
use Rattle.table_rows.specs.Tables.{no_rows}
use Rattle.sql_rows.specs.Image.{IsFilled, IsImage, by_rowid, given_rows}

none_given : (by_rowid : Bool) → given_rows by_rowid [] ≡ []
none_given true = refl
none_given false = refl

unfilled : (table : Table) (by_rowid : Bool) (trees : Trees) → trees table.tree ≡ [] → IsFilled (record { table = table; by_rowid = by_rowid; rows = [] }) trees
unfilled table by_rowid trees none = record {
  rows = subst (IsPermutation []) (sym (ap (given_rows by_rowid) none)) (subst (IsPermutation []) (sym (none_given by_rowid)) (IsPermutation-refl []));
  apart = subst AreApart (sym none) (record { apart = tt; ints = tt });
}

one_version : (trees : Trees) → trees 0 ≡ version_row ∷ [] → IsFilled (by_rowid version_table (version_row ∷ [])) trees
one_version trees one = record {
  rows = subst (IsPermutation (version_row ∷ [])) (sym one) (IsPermutation-refl (version_row ∷ []));
  apart = subst AreApart (sym one) (record { apart = (tt, tt); ints = (refl, tt) });
}

pub newly_filled : (db : Database) → IsNewlyMade db → IsImage no_rows db
newly_filled db new =
    let e = new.empty in
    let t = db.trees in
    record {
      ours = new.schema_is;
      is_database = new.is_database;
      each = (
        one_version t new.version,
        (
          unfilled _ _ t e.0,
          (
            unfilled _ _ t e.1.0,
            (
              unfilled _ _ t e.1.1.0,
              (
                unfilled _ _ t e.1.1.1.0,
                (
                  unfilled _ _ t e.1.1.1.1.0,
                  (
                    unfilled _ _ t e.1.1.1.1.1.0,
                    (
                      unfilled _ _ t e.1.1.1.1.1.1.0,
                      (
                        unfilled _ _ t e.1.1.1.1.1.1.1.0,
                        (
                          unfilled _ _ t e.1.1.1.1.1.1.1.1.0,
                          (unfilled _ _ t e.1.1.1.1.1.1.1.1.1.0, (unfilled _ _ t e.1.1.1.1.1.1.1.1.1.1.0, tt)),
                        ),
                      ),
                    ),
                  ),
                ),
              ),
            ),
          ),
        ),
      );
    }
