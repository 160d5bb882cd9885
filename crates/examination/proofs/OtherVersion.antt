-- If the tables are those of a version but its row has another number, no version has both.
use Rattle.std.proofs.Common.{◌≡◌, ◌∙◌, ℕ, true, drop, pos, List, [], ◌∷◌, Option, Some, None, sym, ap, subst}
use Rattle.sqlite.specs.Effect.{Database}
use Rattle.sqlite.specs.Schema.{Schema}
use Rattle.sqlite.specs.Table.{Table}
use Rattle.sqlite.specs.Term.{Term, col, lit}
use Rattle.sqlite.specs.declared.types.Value.TheVariants.{Int}
use Rattle.sql_base.specs.Queries.{is_equal}
use Rattle.sql_tables.specs.Finds.{Finds}
use Rattle.sql_tables.specs.Ours.{AreThere}
use Rattle.sql_tables.specs.Versions.{numbered_version_at, schema_of}
use Rattle.sql_tables.specs.declared.versions.Version.{Version}
use Rattle.sql_tables.specs.declared.versions.Version.TheVariants.{One, Two, Three}
use Rattle.table_reads.specs.Holding.{Holds, IsOfVersion, SaysVersion, number_of}
use Rattle.table_reads.specs.Version.{numbered_row}

table_there : (v : Version) (s : Schema) → AreThere s (schema_of v).tables → (tree : ℕ) × Finds s (numbered_version_at (number_of v) tree)
table_there One s there = let it = there.1.1.1.1.1.1.1.1.1.1.0 in (it.number, it.finds)
table_there Two s there = let it = there.1.1.1.1.1.1.1.1.1.1.1.0 in (it.number, it.finds)
table_there Three s there = let it = there.0 in (it.number, it.finds)

-- the check with the version number
abbrev number_named : Option Table → List Term
number_named None = []
number_named (Some t) = drop 1 t.checks

one_number_named : (n m : ℕ) → is_equal (col 1 2) (lit (Int (pos n))) ∷ [] ≡ is_equal (col 1 2) (lit (Int (pos m))) ∷ [] → n ≡ m
one_number_named n m e = cc

pub of_no_version : (v : Version) (db : Database) → AreThere db.schema (schema_of v).tables → ¬ SaysVersion v db → (w : Version) → ¬ IsOfVersion w db
of_no_version v db there other w is =
    let it = table_there v db.schema there in
    let said = is.1 in
    let same : number_of w ≡ number_of v = one_number_named (number_of w) (number_of v) (ap number_named (sym said.finds.named ∙ it.1.named)) in
    other (subst (λ n. Holds (numbered_version_at n) true (numbered_row n ∷ []) db) same said)
