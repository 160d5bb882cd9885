-- The only row of `version`.
use Rattle.std.specs.Prelude.{◌≡◌, ℕ, List, [], ◌∷◌, length}
use Rattle.sqlite.specs.Order.{Row, column}
use Rattle.sqlite.specs.declared.types.Value.TheVariants.{Null}
use Rattle.sql_rows.specs.Encoding.{number}

-- the row as it is stored, preceded by its rowid. The column `id` is an alias of the rowid, so its
-- own value is NULL.
abbrev pub numbered_row : ℕ → Row
numbered_row version = number 1 ∷ Null ∷ number version ∷ []

-- the row as a query returns it
unfoldable pub IsVersionRow : ℕ → Row → Type 0
IsVersionRow version row = (length row ≡ 2) × (column row 0 ≡ number 1) × (column row 1 ≡ number version)

abbrev pub IsVersionAlone : ℕ → List Row → Type 0
IsVersionAlone version [] = ⊥
IsVersionAlone version (row ∷ []) = IsVersionRow version row
IsVersionAlone version (row ∷ other ∷ rows) = ⊥
