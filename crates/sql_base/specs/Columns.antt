-- Columns that don't accept NULL, and the empty schema.
use Rattle.std.specs.Prelude.{true, [], List, ℕ, pos}
use Rattle.sqlite.specs.Collation.TheVariants.{Binary}
use Rattle.sqlite.specs.declared.types.Value.TheVariants.{Null, Int}
use Rattle.sqlite.specs.Kind.TheVariants.{Integer, Text, Blob}
use Rattle.sqlite.specs.Schema.{Schema}
use Rattle.sqlite.specs.Term.{Term, col, lit, op2}
use Rattle.sqlite_schema.specs.declared.schema.Column.{Column}
use Rattle.sqlite_schema.specs.declared.schema.Stamps.{Stamps}
use Rattle.sqlite_sql.specs.declared.ops.BinaryOp.TheVariants.{And, Compare}
use Rattle.sqlite_sql.specs.declared.ops.CompareOp.TheVariants.{Ge, Le}

abbrev pub int_column : List ℕ → Column
int_column name = record { name = name; kind = Integer; is_strict = true; not_null = true; default = Null; collation = Binary }

abbrev pub text_column : List ℕ → Column
text_column name = record { name = name; kind = Text; is_strict = true; not_null = true; default = Null; collation = Binary }

abbrev pub blob_column : List ℕ → Column
blob_column name = record { name = name; kind = Blob; is_strict = true; not_null = true; default = Null; collation = Binary }

-- No column is computed.
abbrev pub no_stamps : Stamps
no_stamps = record { places = []; terms = []; formats = [] }

-- low <= column `at` <= high
abbrev pub between : ℕ → ℕ → ℕ → Term
between at low high = op2 And (op2 (Compare Ge Binary) (col 1 at) (lit (Int (pos low)))) (op2 (Compare Le Binary) (col 1 at) (lit (Int (pos high))))

abbrev pub no_schema : Schema
no_schema = record { tables = []; indexes = []; views = [] }
