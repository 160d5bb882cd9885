-- Queries over one tree.
use Rattle.std.specs.Prelude.{◌≡◌, ◌+◌, ◌<◌, false, ℕ, List, [], ◌∷◌, None, length, pos, negsuc, slice_index_or}
use Rattle.std.specs.Ordering.{is_lt}
use Rattle.sqlite.specs.Collation.TheVariants.{Binary}
use Rattle.sqlite.specs.declared.types.Value.TheVariants.{Int}
use Rattle.sqlite.specs.Order.{Row, column}
use Rattle.sqlite.specs.Query.{Query, end, inner}
use Rattle.sqlite.specs.Term.{Term, lit, op2}
use Rattle.sqlite_sql.specs.declared.ops.BinaryOp.TheVariants.{Compare}
use Rattle.sqlite_sql.specs.declared.ops.CompareOp.TheVariants.{Eq}
use Rattle.sqlite_value.specs.Keys.{ascending}
use Rattle.sqlite_value.specs.Order.{value_cmp}

abbrev pub is_equal : Term → Term → Term
is_equal a b = op2 (Compare Eq Binary) a b

-- the query for the rows of one tree that satisfy `filter`, in any order
abbrev pub from_tree : ℕ → List Term → List Term → Query
from_tree tree filter project = record {
  from = inner tree end;
  filter = filter;
  group = None;
  project = project;
  distinct = false;
  collations = [];
  order = [];
  limit = lit (Int (negsuc 0));
  offset = lit (Int (pos 0));
}

-- the same query, ordered by the first column of its result
abbrev pub by_first : ℕ → List Term → Term → List Term → Query
by_first tree filters first more = record (from_tree tree filters (first ∷ more)) { order = (first, ascending Binary) ∷ [] }

-- The values of the first column never decrease.
abbrev pub IsRising : List Row → Type 0
IsRising rows = (k : ℕ) (d : Row) → k + 1 < length rows → is_lt (value_cmp (column (slice_index_or rows (k + 1) d) 0) (column (slice_index_or rows k d) 0)) ≡ false
