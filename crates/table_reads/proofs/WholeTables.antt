-- A query for a whole table is understood by one computation, in any schema in which the table is
-- found.
use Rattle.std.proofs.Common.{◌≡◌, ◌+◌, ◌∙◌, ℕ, zero, suc, Bool, true, false, nat_le, nat_lt, ◌^◌, codes, slice_get, List, [], ◌∷◌, drop, length, Option, None, Some, Result, Ok, Err, refl, sym, ap, subst, arith}
use Rattle.std.proofs.lemmas.Bool.{leb-false, ltb-false, true_from_ne_false}
use Rattle.sqlite.specs.Order.{Row, column}
use Rattle.sqlite.specs.Schema.{Schema}
use Rattle.sqlite.specs.Table.{Table}
use Rattle.sqlite.specs.Term.{Term, col, eval_all}
use Rattle.sqlite_ast.specs.declared.Statement.{Statement}
use Rattle.sqlite_ast.specs.declared.Statement.TheVariants.{Select}
use Rattle.sqlite_draft.specs.Query.{query_of}
use Rattle.sqlite_keyed.proofs.RuleLemmas.{first_of_both}
use Rattle.sqlite_ast.specs.declared.Shown.{Shown as Item}
use Rattle.sqlite_ast.specs.declared.Shown.TheVariants.{All}
use Rattle.sqlite_resolve.specs.Body.{result}
use Rattle.sqlite_resolve.specs.Compile.{first}
use Rattle.sqlite_resolve.specs.Expr.{lower}
use Rattle.sqlite_resolve.specs.Lowering.{nothing}
use Rattle.sqlite_resolve.specs.Scope.{is_rowid}
use Rattle.sqlite_resolve.specs.Select.{outermost}
use Rattle.sqlite_resolve.specs.declared.scope.Output.{Output}
use Rattle.sqlite_resolve.specs.declared.error.CompileError.{CompileError}
use Rattle.sqlite_schema.specs.Names.{column_named, same_name}
use Rattle.sqlite_schema.specs.Rules.{are_present, are_typed}
use Rattle.sqlite_schema.specs.declared.schema.Column.{Column}
use Rattle.sqlite_sql.specs.Query.{Query}
use Rattle.sqlite_syntax.specs.declared.statement.Parsed.{Parsed}
use Rattle.sqlite_typing.specs.Types.{accepts_after, row_classes}
use Rattle.sql_base.specs.Queries.{from_tree}
use Rattle.sql_tables.specs.Finds.{Finds}
use Rattle.sql_tables.proofs.Lookups.{IsAt, is_at}
use Rattle.table_reads.specs.Whole.{Asks, IsWhole, as_stored, columns_of, stored_row, with_rowid}
use Rattle.table_reads.proofs.Selecting.{all_are, all_shown, asks, core_of, first_level, held, item, later, read_from, rowid_and_all_are, rowid_shown, select_of}
use Rattle.table_reads.proofs.Shapes.{are_keyed, are_plain, filled, keyed_by, spread}

-- the columns from a position
abbrev pub from_place : ℕ → List Column → List Term
from_place at [] = []
from_place at (c ∷ cs) = col 1 (at + 1) ∷ from_place (at + 1) cs

-- all columns except the rowid, which is the first column or no column
abbrev pub more_of : Bool → List Column → List Term
more_of true cs = from_place 1 (drop 1 cs)
more_of false cs = from_place 0 cs

-- Every column is NOT NULL, and the rowid is the first column or no column.
abbrev pub are_shown : Bool → Option ℕ → List Column → Bool
are_shown true (Some zero) cs = are_keyed cs
are_shown true _ cs = false
are_shown false key cs = are_plain key 0 cs

from_place_is : (at : ℕ) (cs : List Column) (r : Row) → eval_all (from_place at cs) ([] ∷ r ∷ []) ≡ spread at cs r
from_place_is at [] r = refl
from_place_is at (c ∷ cs) r = ap (λ vs. column r (at + 1) ∷ vs) (from_place_is (at + 1) cs r)

all_of_is : (by_rowid : Bool) (key : Option ℕ) (cs : List Column) (r : Row) → are_shown by_rowid key cs ≡ true → are_typed key 0 cs (drop 1 r) ≡ true → are_present key 0 cs r ≡ true
    → as_stored by_rowid (columns_of (with_rowid (more_of by_rowid cs)) r) ≡ stored_row by_rowid r
all_of_is true None cs r shown typed present = absurd (cc)
all_of_is true (Some zero) cs r shown typed present = ap (λ vs. as_stored true (column r 0 ∷ vs)) (from_place_is 1 (drop 1 cs) r) ∙ keyed_by cs r shown typed present
all_of_is true (Some (suc k)) cs r shown typed present = absurd (cc)
all_of_is false key cs r shown typed present = from_place_is 0 cs r ∙ sym (filled key cs 0 r (drop 1 r) refl shown typed present)

-- ---- the columns in the result

abbrev pub rowid_name : List ℕ
rowid_name = codes "rowid"

-- If the rowid isn't a column, the query asks for it by name.
abbrev pub items_of : Bool → List Item
items_of true = All ∷ []
items_of false = item rowid_name ∷ All ∷ []

abbrev pub first_of : Bool → Table → List Output
first_of true t = []
first_of false t = rowid_shown t ∷ []

abbrev pub outs_of : Bool → Table → ℕ → List Output
outs_of by_rowid t at = all_shown t t.name at (first_of by_rowid t)

abbrev left_of : Bool → ℕ
left_of true = 100000
left_of false = 99999

pub below : (n limit : ℕ) → nat_le limit n ≡ false → nat_lt n limit ≡ true
below n limit low = true_from_ne_false (nat_lt n limit) (λ high. omega (arith, ltb-false n limit high, leb-false limit n low))

are_outs : (by_rowid : Bool) (s : Schema) (at : ℕ) (t : Table) → slice_get s.tables at ≡ Some t → nat_lt t.tree (2 ^ 31) ≡ true → column_named t rowid_name ≡ None → is_rowid rowid_name ≡ true
    → nat_lt 2000 (length (outs_of by_rowid t at)) ≡ false → nat_lt (length (first_of by_rowid t)) (length (outs_of by_rowid t at)) ≡ true
    → result lower (outermost s) (first_level t.name at) (core_of t.name (items_of by_rowid)) later ≡ Ok (outs_of by_rowid t at, held (left_of by_rowid) nothing)
are_outs true s at t there low unnamed names few some = all_are s t.name at t there few some
are_outs false s at t there low unnamed names few some = rowid_and_all_are s t.name at t there low rowid_name unnamed names few some

-- the results of the computation for a text and a table
pub record Computed : Type 0 where
  pub statement : Option (Statement × List (List ℕ))
  pub tree : ℕ
  pub columns : List Column
  pub query : Query
  pub is_long : Bool
  pub has_columns : Bool
  pub accepted : Bool
  pub shown : Bool
  pub rowid_named : Option ℕ
  pub names_rowid : Bool

abbrev pub said : Result Parsed CompileError → Option (Statement × List (List ℕ))
said (Ok p) = Some (p.statement, p.formats)
said (Err e) = None

abbrev pub computed : Bool → List ℕ → Table → ℕ → Computed
computed by_rowid text t at =
    let outs = outs_of by_rowid t at in
    let query = query_of (read_from t.tree outs) in
    record {
      statement = said (first text);
      tree = t.tree;
      columns = t.columns;
      query = query;
      is_long = nat_lt 2000 (length outs);
      has_columns = nat_lt (length (first_of by_rowid t)) (length outs);
      accepted = accepts_after [] query (Some (row_classes t ∷ []));
      shown = are_shown by_rowid t.key t.columns;
      rowid_named = column_named t rowid_name;
      names_rowid = is_rowid rowid_name;
    }

-- The query is for the rowid and all columns of the table, found by its name, and no value is lost.
abbrev pub as_whole : Bool → List Column → Table → ℕ → Computed
as_whole by_rowid columns t tree = record {
  statement = Some (Select (select_of t.name (items_of by_rowid)), []);
  tree = tree;
  columns = columns;
  query = from_tree t.tree [] (with_rowid (more_of by_rowid columns));
  is_long = false;
  has_columns = true;
  accepted = true;
  shown = true;
  rowid_named = None;
  names_rowid = true;
}

pub record IsSaid (r : Result Parsed CompileError) (statement : Statement) : Type 0 where
  pub parsed : Parsed
  pub is : r ≡ Ok parsed
  pub same : parsed.statement ≡ statement
  pub timeless : parsed.formats ≡ []

pub is_said : (r : Result Parsed CompileError) (statement : Statement) → said r ≡ Some (statement, []) → IsSaid r statement
is_said (Ok p) statement e =
    let both : (p.statement, p.formats) ≡ (statement, []) = cc in
    record { parsed = p; is = refl; same = ap (λ (b : Statement × List (List ℕ)). b.0) both; timeless = ap (λ (b : Statement × List (List ℕ)). b.1) both }
is_said (Err error) statement e = absurd (cc)

module _ (text : List ℕ) (table : ℕ → Table) (by_rowid : Bool) (is : (tree at : ℕ) → computed by_rowid text (table tree) at ≡ as_whole by_rowid (table 0).columns (table tree) tree) where
  whole_asks : (s : Schema) (tree : ℕ) → Finds s (table tree) → Asks s text tree (with_rowid (more_of by_rowid (table 0).columns))
  whole_asks s tree f =
      let t = table tree in
      let place : IsAt (λ u. same_name u.name t.name) s.tables t = is_at _ s.tables t f.named in
      let e = is tree place.at in
      let it = is_said (first text) (Select (select_of t.name (items_of by_rowid))) (ap (λ (c : Computed). c.statement) e) in
      let outs = are_outs by_rowid s place.at t place.there (below t.tree (2 ^ 31) f.low) (ap (λ (c : Computed). c.rowid_named) e) (ap (λ (c : Computed). c.names_rowid) e) (ap (λ (c : Computed). c.is_long) e) (ap (λ (c : Computed). c.has_columns) e) in
      subst (λ n. Asks s text n (with_rowid (more_of by_rowid (table 0).columns))) (ap (λ (c : Computed). c.tree) e)
      (asks s t.name place.at t place.place place.there (items_of by_rowid) (outs_of by_rowid t place.at) (left_of by_rowid) nothing outs f.low f.numbered (ap (λ (c : Computed). c.accepted) e)
      text it.parsed it.is it.same it.timeless _ (ap (λ (c : Computed). c.query) e))

  pub whole : IsWhole text table by_rowid
  whole = record {
    columns = more_of by_rowid (table 0).columns;
    asks = whole_asks;
    numbered = λ tree. ap (λ (c : Computed). c.tree) (is tree 0);
    shows = λ s trees tree row typed present.
        let t = table tree in
        subst (λ cs. as_stored by_rowid (columns_of (with_rowid (more_of by_rowid cs)) row) ≡ stored_row by_rowid row) (ap (λ (c : Computed). c.columns) (is tree 0))
        (all_of_is by_rowid t.key t.columns row (ap (λ (c : Computed). c.shown) (is tree 0)) (first_of_both _ _ typed) present);
  }
