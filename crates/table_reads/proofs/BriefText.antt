-- The meaning of the query for replies without their bytes, in any schema in which the table is
-- found.
use Rattle.std.proofs.Common.{◌≡◌, ℕ, true, List, [], ◌∷◌, codes, ◌^◌, Some, None, refl}
use Rattle.sqlite.specs.Schema.{Schema}
use Rattle.sqlite.specs.Term.{Term, col}
use Rattle.sqlite_ast.specs.declared.Shown.{Shown as Item}
use Rattle.sqlite_ast.specs.declared.Statement.TheVariants.{Select}
use Rattle.sqlite_draft.specs.Query.{query_of}
use Rattle.sqlite_resolve.specs.Compile.{first}
use Rattle.sqlite_resolve.specs.Scope.{declared, is_rowid}
use Rattle.sqlite_resolve.specs.declared.scope.Output.{Output}
use Rattle.sqlite_schema.specs.Names.{column_named, same_name}
use Rattle.sqlite_tied.specs.Compute.{everything}
use Rattle.sqlite_typing.specs.Types.{accepts_after, row_classes}
use Rattle.sql_base.specs.Columns.{int_column, text_column}
use Rattle.sql_base.specs.Queries.{from_tree}
use Rattle.sql_tables.specs.Finds.{Finds}
use Rattle.sql_tables.specs.Tables.{reply_at}
use Rattle.sql_tables.proofs.Lookups.{IsAt, is_at}
use Rattle.table_reads.specs.Texts.{brief_replies_text}
use Rattle.table_reads.specs.Whole.{Asks, with_rowid}
use Rattle.table_reads.proofs.Selecting.{asks, column_shown, item, read_from, rowid_and_three_are, rowid_shown, select_of}
use Rattle.table_reads.proofs.WholeTables.{below, is_said, rowid_name, said}

-- the columns `client`, `number` and `status`
abbrev pub brief_columns : List Term
brief_columns = col 1 1 ∷ col 1 2 ∷ col 1 4 ∷ []

abbrev items : List Item
items = item rowid_name ∷ item (codes "client") ∷ item (codes "number") ∷ item (codes "status") ∷ []

abbrev outs : ℕ → List Output
outs tree =
    let t = reply_at tree in
    rowid_shown t ∷ column_shown t 0 (text_column (codes "client")) ∷ column_shown t 1 (int_column (codes "number")) ∷ column_shown t 3 (int_column (codes "status")) ∷ []

statement : said (first brief_replies_text) ≡ Some (Select (select_of (codes "reply") items), [])
unfolding everything
statement = refl

query : (tree : ℕ) → query_of (read_from tree (outs tree)) ≡ from_tree tree [] (with_rowid brief_columns)
unfolding everything
query tree = refl

accepted : (tree : ℕ) → accepts_after [] (query_of (read_from tree (outs tree))) (Some (row_classes (reply_at tree) ∷ [])) ≡ true
unfolding everything
accepted tree = refl

unnamed : (tree : ℕ) → column_named (reply_at tree) rowid_name ≡ None
unfolding same_name
unnamed tree = refl

names_rowid : is_rowid rowid_name ≡ true
unfolding same_name is_rowid
names_rowid = refl

client_is : (tree : ℕ) → column_named (reply_at tree) (codes "client") ≡ Some 0
unfolding same_name
client_is tree = refl

number_is : (tree : ℕ) → column_named (reply_at tree) (codes "number") ≡ Some 1
unfolding same_name
number_is tree = refl

status_is : (tree : ℕ) → column_named (reply_at tree) (codes "status") ≡ Some 3
unfolding same_name
status_is tree = refl

pub brief_asks : (s : Schema) (tree : ℕ) → Finds s (reply_at tree) → Asks s brief_replies_text tree (with_rowid brief_columns)
brief_asks s tree f =
    let t = reply_at tree in
    let place : IsAt (λ u. same_name u.name t.name) s.tables t = is_at _ s.tables t f.named in
    let it = is_said (first brief_replies_text) (Select (select_of t.name items)) statement in
    let shows = rowid_and_three_are s t.name place.at t place.there (below tree (2 ^ 31) f.low) rowid_name (unnamed tree) names_rowid (codes "client") (codes "number") (codes "status") 0 1 3
    (text_column (codes "client")) (int_column (codes "number")) (int_column (codes "status")) (client_is tree) refl (number_is tree) refl (status_is tree) refl in
    asks s t.name place.at t place.place place.there items (outs tree) 99996 (declared t 3 (int_column (codes "status"))) shows f.low f.numbered (accepted tree)
    brief_replies_text it.parsed it.is it.same it.timeless (with_rowid brief_columns) (query tree)
