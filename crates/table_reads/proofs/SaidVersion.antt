-- The result of reading the row of `version`, if the tables of the version exist.
use Rattle.std.proofs.Common.{◌↔◌, ℕ, Bool, true, [], ◌∷◌, IsTrue}
use Rattle.std.specs.List.Sorted.{IsPermutation}
use Rattle.sqlite.specs.Effect.{Database}
use Rattle.sqlite.specs.Schema.{Schema}
use Rattle.sql_rows.specs.Image.{given_rows}
use Rattle.sql_tables.specs.Finds.{Finds}
use Rattle.sql_tables.specs.Ours.{AreThere}
use Rattle.sql_tables.specs.Versions.{numbered_version_at, schema_of}
use Rattle.sql_tables.specs.declared.versions.Version.{Version}
use Rattle.sql_tables.specs.declared.versions.Version.TheVariants.{One, Two, Three}
use Rattle.table_reads.specs.Version.{numbered_row}
use Rattle.table_reads.specs.Holding.{SaysVersion, number_of}

-- The schema has the table `version`.
record IsThere (v : Version) (s : Schema) : Type 0 where
  number : ℕ
  finds : Finds s (numbered_version_at (number_of v) number)

version_there : (v : Version) (s : Schema) → AreThere s (schema_of v).tables → IsThere v s
version_there One s there = let it = there.1.1.1.1.1.1.1.1.1.1.0 in record { number = it.number; finds = it.finds }
version_there Two s there = let it = there.1.1.1.1.1.1.1.1.1.1.1.0 in record { number = it.number; finds = it.finds }
version_there Three s there = let it = there.0 in record { number = it.number; finds = it.finds }

pub says_as : (v : Version) (db : Database) (says : Bool)
    → ((n tree : ℕ) → Finds db.schema (numbered_version_at n tree) → IsTrue says ↔ IsPermutation (numbered_row (number_of v) ∷ []) (given_rows true (db.trees tree)))
    → AreThere db.schema (schema_of v).tables → IsTrue says ↔ SaysVersion v db
says_as v db says given_is there =
    let it = version_there v db.schema there in (
      (λ h. record { number = it.number; finds = it.finds; rows_are = (given_is (number_of v) it.number it.finds).0 h }),
      (λ held. (given_is (number_of v) held.number held.finds).1 held.rows_are),
    )
