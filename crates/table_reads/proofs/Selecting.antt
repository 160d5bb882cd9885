-- The meaning of a query for columns of a table, by name, for its rowid, or for all columns, in any
-- schema in which its name finds the table.
use Rattle.sqlite_value.specs.declared.keys.Collation.{Collation}
use Rattle.std.proofs.Common.{◌≡◌, ◌-◌, ℕ, codes, List, [], ◌∷◌, refl, false, true, suc, ap, ◌∙◌, Option, Some, None, Ok, slice_get, ◌==◌, nat_le, nat_lt, ◌^◌, ◌++◌, length, map, pos, negsuc}
use Rattle.std.specs.Prelude.{find, option_and_then, option_map, unwrap_or}
use Rattle.sqlite_value.specs.declared.value.Value.TheVariants.{Int}
use Rattle.sqlite_sql.specs.Term.{col, lit, Term}
use Rattle.sqlite_draft.specs.declared.query.Draft.{Draft}
use Rattle.sqlite_draft.specs.declared.join.Step.TheVariants.{Inner}
use Rattle.sqlite.specs.Schema.{Schema}
use Rattle.sqlite.specs.Table.{Table}
use Rattle.sqlite_schema.specs.Names.{column_named, place_of, table_named}
use Rattle.sqlite_schema.specs.declared.schema.Column.{Column}
use Rattle.sqlite_ast.specs.declared.Origin.TheVariants as origin
use Rattle.sqlite_ast.specs.declared.Source.{Source, roll-Source}
use Rattle.sqlite_ast.specs.declared.Expr.{Expr}
use Rattle.sqlite_ast.specs.declared.Expr.TheVariants as expr
use Rattle.sqlite_ast.specs.declared.Shown.{Shown as Item}
use Rattle.sqlite_ast.specs.declared.Shown.TheVariants.{All, One}
use Rattle.sqlite_ast.specs.declared.Core.{Core, roll-Core}
use Rattle.sqlite_ast.specs.declared.Select.{Select, roll-Select}
use Rattle.sqlite_resolve.specs.declared.scope.Bound.{Bound}
use Rattle.sqlite_resolve.specs.declared.scope.Output.{Output}
use Rattle.sqlite_resolve.specs.declared.state.State.{State}
use Rattle.sqlite_resolve.specs.declared.scope.Found.TheVariants as found
use Rattle.sqlite_resolve.specs.declared.state.Carried.{Carried}
use Rattle.sqlite_resolve.specs.Lowering.{begin, finish, fresh, max_budget, nothing, spend, take_slot}
use Rattle.sqlite_resolve.specs.Scope.{Name, Context, column, column_at, column_in, declared, find as find_name, hit, in_level, is_among, is_rowid, only, rowid_in, term_of}
use Rattle.sqlite_resolve.specs.Body.{declared as declared_name, heading, is_column, table_in, bound, bounds, columns_of, columns_from, stars, shown, outputs, result, inner_join, join, joins, tests, shared, matching, body}
use Rattle.sqlite_resolve.specs.Select.{outermost, parts, having, named, ungrouped, assembled, paging, constant_or}
use Rattle.sqlite_resolve.specs.Order.{keys, sorts}
use Rattle.sqlite_resolve.specs.declared.scope.Level.{Level}
use Rattle.sqlite_resolve.specs.declared.body.Body.{Body}
use Rattle.sqlite_resolve.specs.Expr.{lower, lower_to, node, opened, passes}
use Rattle.table_reads.specs.Layers.{layers}
use Rattle.table_reads.specs.Whole.{Asks}
use Rattle.sql_base.specs.Queries.{from_tree}
use Rattle.sqlite_schema.specs.declared.program.Table.{Table as Let}
use Rattle.sqlite_schema.specs.declared.command.Command.{Command}
use Rattle.sqlite_schema.specs.declared.command.Command.TheVariants as command
use Rattle.sqlite_ast.specs.declared.Statement.TheVariants as written
use Rattle.sqlite_syntax.specs.declared.statement.Parsed.{Parsed}
use Rattle.sqlite_draft.specs.Query.{query_of}
use Rattle.sqlite_sql.specs.Query.{Query}
use Rattle.sqlite_typing.specs.Types.{accepts_program, accepts_after, row_classes}
use Rattle.sqlite_resolve.specs.Program.{Building, Shown, sources, source, viewing, single, alone, whole, with, level, query_to, query, program}
use Rattle.sqlite_resolve.specs.Compile.{read, command as command_in, returning, timed, first, meaning, planned, compiled, with_command}
use Rattle.sqlite.specs.Listing.{understood, reads_listing}
use Rattle.sqlite.proofs.Callers.{IsPlain, command_of}

abbrev pub source_of : Name → Source
source_of name = roll-Source (record { is_left = false; origin = origin.Table name; alias = None; on = None; using = [] })

abbrev pub core_of : Name → List Item → Core
core_of name items = roll-Core (record { distinct = false; shown = items; from = source_of name ∷ []; filter = None; group = []; having = None })

abbrev pub select_of : Name → List Item → Select
select_of name items = roll-Select (record { with = []; first = core_of name items; others = []; order = []; limit = None; offset = None })

-- a column, or the rowid, by its name
abbrev by_name : Name → Expr
by_name column_name = expr.Column None column_name

abbrev pub item : Name → Item
item column_name = One (by_name column_name) None column_name

abbrev bound_of : Name → ℕ → Bound
bound_of name at = record { name = name; table = at; slot = 1; shared = [] }

abbrev pub one : Name → ℕ → List Bound
one name at = bound_of name at ∷ []

abbrev pub first_level : Name → ℕ → Level
first_level name at = record { tables = one name at; shown = [] }

abbrev pub inside : Schema → Name → ℕ → Context
inside s name at = record (outermost s) { levels = first_level name at ∷ []; may_aggregate = true }

-- ---- the columns of the result

abbrev pub rowid_shown : Table → Output
rowid_shown t = record { name = unwrap_or (option_and_then (λ k. option_map (λ (c : Column). c.name) (slice_get t.columns k)) t.key) (codes "rowid"); is_alias = false; is_column = true; term = col 1 0; carried = nothing }

abbrev pub column_shown : Table → ℕ → Column → Output
column_shown t k c = record { name = c.name; is_alias = false; is_column = true; term = col 1 (place_of t k); carried = declared t k c }

abbrev pub all_shown : Table → Name → ℕ → List Output → List Output
all_shown t name at done = columns_from None t (bound_of name at) 0 done t.columns

-- ---- the states of a parse

abbrev begun : State
begun = fresh 1 max_budget

abbrev pub held : ℕ → Carried → State
held budget last = record (fresh 2 budget) { last = last }

abbrev pub later : State
later = held max_budget nothing

abbrev pub read_from : ℕ → List Output → Draft
read_from tree outs = ungrouped (Inner tree ∷ []) [] outs false [] (lit (Int (negsuc 0))) (lit (Int (pos 0)))

module _ (s : Schema) (name : Name) (at : ℕ) (t : Table) (there : slice_get s.tables at ≡ Some t) where
  -- ---- a column by its name

  column_is : (k : ℕ) (column_name : Name) → column_named t column_name ≡ Some k → find_name (inside s name at) None column_name ≡ Ok (found.Column 1 at k)
  unfolding find_name in_level only hit column_in is_among
  column_is k column_name called = rw (there, called) refl

  column_lowered : (k : ℕ) (c : Column) (column_name : Name) → column_named t column_name ≡ Some k → slice_get t.columns k ≡ Some c
      → (budget : ℕ) (last : Carried) → nat_lt 1 budget ≡ true → lower (inside s name at) (by_name column_name) (held budget last) ≡ Ok (col 1 (place_of t k), held (budget - 1) (declared t k c))
  unfolding lower_to node opened column term_of column_at begin finish spend passes layers
  column_lowered k c column_name called has budget last rich = rw (rich, column_is k column_name called, there, has) refl

  pub column_item : (k : ℕ) (c : Column) (column_name : Name) → column_named t column_name ≡ Some k → slice_get t.columns k ≡ Some c
      → (budget : ℕ) (last : Carried) → nat_lt 1 budget ≡ true → (done : List Output) → shown lower (inside s name at) (one name at) done (item column_name) (held budget last) ≡ Ok (done ++ column_shown t k c ∷ [], held (budget - 1) (declared t k c))
  unfolding shown heading is_column declared_name layers
  column_item k c column_name called has budget last rich done = rw (column_lowered k c column_name called has budget last rich, column_is k column_name called, there, has) refl

  -- ---- the rowid

  module _ (few_trees : nat_lt t.tree (2 ^ 31) ≡ true) where
    rowid_is : (column_name : Name) → column_named t column_name ≡ None → is_rowid column_name ≡ true → find_name (inside s name at) None column_name ≡ Ok (found.Rowid 1 at)
    unfolding find_name in_level only hit column_in rowid_in is_among
    rowid_is column_name unnamed names = rw (there, unnamed, names, few_trees) refl

    rowid_lowered : (column_name : Name) → column_named t column_name ≡ None → is_rowid column_name ≡ true
        → (budget : ℕ) (last : Carried) → nat_lt 1 budget ≡ true → lower (inside s name at) (by_name column_name) (held budget last) ≡ Ok (col 1 0, held (budget - 1) nothing)
    unfolding lower_to node opened column term_of begin finish spend passes layers
    rowid_lowered column_name unnamed names budget last rich = rw (rich, rowid_is column_name unnamed names) refl

    pub rowid_item : (column_name : Name) → column_named t column_name ≡ None → is_rowid column_name ≡ true
        → (budget : ℕ) (last : Carried) → nat_lt 1 budget ≡ true → (done : List Output) → shown lower (inside s name at) (one name at) done (item column_name) (held budget last) ≡ Ok (done ++ rowid_shown t ∷ [], held (budget - 1) nothing)
    unfolding shown heading is_column declared_name layers
    rowid_item column_name unnamed names budget last rich done = rw (rowid_lowered column_name unnamed names budget last rich, rowid_is column_name unnamed names, there) refl

  -- ---- all columns

  all_item : (done : List Output) → nat_lt 2000 (length (all_shown t name at done)) ≡ false → nat_lt (length done) (length (all_shown t name at done)) ≡ true
      → (st : State) → shown lower (inside s name at) (one name at) done All st ≡ Ok (all_shown t name at done, st)
  unfolding shown stars columns_of layers
  all_item done few some st = rw (there, few, some) refl

  -- ---- the result of the queries

  pub all_are : nat_lt 2000 (length (all_shown t name at [])) ≡ false → nat_lt 0 (length (all_shown t name at [])) ≡ true
      → result lower (outermost s) (first_level name at) (core_of name (All ∷ [])) later ≡ Ok (all_shown t name at [], later)
  unfolding result outputs layers
  all_are few some = rw (all_item [] few some later) refl

  pub rowid_and_all_are : nat_lt t.tree (2 ^ 31) ≡ true → (column_name : Name) → column_named t column_name ≡ None → is_rowid column_name ≡ true
      → nat_lt 2000 (length (all_shown t name at (rowid_shown t ∷ []))) ≡ false → nat_lt 1 (length (all_shown t name at (rowid_shown t ∷ []))) ≡ true
      → result lower (outermost s) (first_level name at) (core_of name (item column_name ∷ All ∷ [])) later ≡ Ok (all_shown t name at (rowid_shown t ∷ []), held 99999 nothing)
  unfolding result outputs layers
  rowid_and_all_are few_trees column_name unnamed names few some =
      rw (rowid_item few_trees column_name unnamed names max_budget nothing refl [], all_item (rowid_shown t ∷ []) few some (held 99999 nothing)) refl

  pub rowid_and_three_are : nat_lt t.tree (2 ^ 31) ≡ true → (rowid_name : Name) → column_named t rowid_name ≡ None → is_rowid rowid_name ≡ true
      → (a b c : Name) (i j k : ℕ) (x y z : Column) → column_named t a ≡ Some i → slice_get t.columns i ≡ Some x → column_named t b ≡ Some j → slice_get t.columns j ≡ Some y → column_named t c ≡ Some k → slice_get t.columns k ≡ Some z
      → result lower (outermost s) (first_level name at) (core_of name (item rowid_name ∷ item a ∷ item b ∷ item c ∷ [])) later
      ≡ Ok (rowid_shown t ∷ column_shown t i x ∷ column_shown t j y ∷ column_shown t k z ∷ [], held 99996 (declared t k z))
  unfolding result outputs layers
  rowid_and_three_are few_trees rowid_name unnamed names a b c i j k x y z a_is x_is b_is y_is c_is z_is =
      rw (
        rowid_item few_trees rowid_name unnamed names max_budget nothing refl [],
        column_item i x a a_is x_is 99999 nothing refl (rowid_shown t ∷ []),
        column_item j y b b_is y_is 99998 (declared t i x) refl (rowid_shown t ∷ column_shown t i x ∷ []),
        column_item k z c c_is z_is 99997 (declared t j y) refl (rowid_shown t ∷ column_shown t i x ∷ column_shown t j y ∷ []),
      ) refl

module _ (s : Schema) (name : Name) (at : ℕ) (t : Table) (finds : table_named s name ≡ Some at) (there : slice_get s.tables at ≡ Some t) (items : List Item) (outs : List Output) (budget : ℕ) (last : Carried)
    (shows : result lower (outermost s) (first_level name at) (core_of name items) later ≡ Ok (outs, held budget last)) where
  table_in_is : (slot : ℕ) → table_in s slot (origin.Table name) ≡ Ok (name, at)
  unfolding table_in
  table_in_is slot = rw finds refl

  abbrev the_one : List Bound
  the_one = one name at

  abbrev shown_last : State
  shown_last = held budget last

  abbrev whole_level : Level
  whole_level = record { tables = the_one; shown = outs }

  bounds_is : bounds s (source_of name ∷ []) begun ≡ Ok (the_one, later)
  unfolding bounds bound take_slot layers
  bounds_is = rw (table_in_is 1) refl

  join_is : (cx : Context) → cx.schema ≡ s → (st : State) → join lower cx the_one (record { steps = []; filter = [] }) (bound_of name at) (source_of name) st ≡ Ok (record { steps = Inner t.tree ∷ []; filter = [] }, st)
  unfolding join shared inner_join tests layers
  join_is cx same st = rw (same, there) refl

  joins_is : (cx : Context) → cx.schema ≡ s → (st : State) → joins lower cx the_one (source_of name ∷ []) st ≡ Ok (record { steps = Inner t.tree ∷ []; filter = [] }, st)
  unfolding joins layers
  joins_is cx same st = rw (join_is cx same st) refl

  matching_is : matching lower (outermost s) whole_level (core_of name items) shown_last ≡ Ok (record { steps = Inner t.tree ∷ []; filter = [] }, shown_last)
  unfolding matching tests layers
  matching_is = rw (joins_is (record (outermost s) { levels = whole_level ∷ [] }) refl shown_last) refl

  abbrev the_body : Body
  the_body = record { level = whole_level; steps = Inner t.tree ∷ []; filter = [] }

  body_is : body lower (outermost s) (core_of name items) begun ≡ Ok (the_body, shown_last)
  unfolding body layers
  body_is = rw (bounds_is, shows, matching_is) refl

  parts_is : parts s (core_of name items) [] begun ≡ Ok (record { body = the_body; is_grouped = false; keys = []; collations = []; having = []; order = [] }, shown_last)
  unfolding parts having keys sorts tests layers
  parts_is = rw body_is refl

  abbrev shown_as : Draft × List Name × List (Option Collation)
  shown_as = (read_from t.tree outs, map (λ o. o.name) outs, map (λ o. o.carried.collation) outs)

  named_is : named s (core_of name items) [] (lit (Int (negsuc 0)), lit (Int (pos 0))) ≡ Ok shown_as
  unfolding named assembled layers
  named_is = rw parts_is refl

  abbrev the_page : Term × Term
  the_page = (lit (Int (negsuc 0)), lit (Int (pos 0)))

  module _ (inner_query : Schema → Select → Building Shown) (lets : List Let) where
    viewing_is : (n : ℕ) → viewing inner_query s (core_of name items) [] the_page (suc n) s lets ≡ Ok ((shown_as, s), lets)
    unfolding viewing
    viewing_is n = rw named_is refl

    sources_is : sources inner_query s (source_of name ∷ []) lets ≡ Ok (s, lets)
    unfolding sources source layers
    sources_is = refl

    single_is : single inner_query s (core_of name items) [] the_page lets ≡ Ok ((shown_as, s), lets)
    unfolding single layers
    single_is = rw (sources_is, viewing_is 63) refl

    alone_is : alone inner_query s (core_of name items) [] the_page lets ≡ Ok (shown_as, lets)
    unfolding alone
    alone_is = rw single_is refl

    paging_is : paging s (select_of name items) ≡ Ok the_page
    unfolding paging constant_or layers
    paging_is = refl

    whole_is : whole inner_query s (select_of name items) lets ≡ Ok (shown_as, lets)
    unfolding whole layers
    whole_is = rw (paging_is, alone_is) refl

    level_is : level inner_query s (select_of name items) lets ≡ Ok (shown_as, lets)
    unfolding level with layers
    level_is = rw whole_is refl

  query_to_is : (depth : ℕ) (lets : List Let) → query_to (suc depth) s (select_of name items) lets ≡ Ok (shown_as, lets)
  unfolding query_to
  query_to_is depth lets = level_is (query_to depth) lets

  query_is : query s (select_of name items) ≡ Ok (shown_as, [])
  unfolding query
  query_is = query_to_is 15 []

  abbrev the_query : Query
  the_query = query_of (read_from t.tree outs)

  module _ (low : nat_le (2 ^ 31) t.tree ≡ false) (by_tree : find (λ u. u.tree == t.tree) s.tables ≡ Some t) (typed : accepts_after [] the_query (Some (row_classes t ∷ [])) ≡ true) where
    accepts_is : accepts_program s [] the_query [] ≡ true
    unfolding ungrouped
    accepts_is = rw (low, by_tree, typed) refl

    program_is : program s [] (read_from t.tree outs) ≡ Ok (record { lets = []; body = the_query })
    unfolding program
    program_is = rw accepts_is refl

    abbrev the_command : Command
    the_command = command.Select (record { lets = []; body = the_query }) (map (λ o. o.name) outs)

    read_is : read s (select_of name items) ≡ Ok the_command
    unfolding read
    read_is = rw (query_is, program_is) refl

    module _ (text : List ℕ) (p : Parsed) (parsed : first text ≡ Ok p) (is : p.statement ≡ written.Select (select_of name items)) (timeless : p.formats ≡ []) where
      meaning_is : (base : ℕ) → meaning s p base ≡ Ok (the_command, None)
      unfolding meaning returning command_in
      meaning_is base = rw (is, read_is) refl

      compiled_is : compiled s text ≡ Ok (with_command p ([], (the_command, None)))
      unfolding compiled planned timed
      compiled_is = rw (parsed, meaning_is, is, timeless) refl

      unlisted_is : reads_listing s text ≡ false
      unlisted_is = rw compiled_is refl

      understood_is : understood s text ≡ Ok (with_command p ([], (the_command, None)))
      unfolding understood
      understood_is = rw compiled_is refl

      command_is : command_of (understood s text) ≡ the_command
      command_is = rw understood_is refl

      plain_is : IsPlain (understood s text)
      plain_is = rw understood_is (refl, refl)

      pub asks : (columns : List Term) → the_query ≡ from_tree t.tree [] columns → Asks s text t.tree columns
      asks columns same = record {
        names = map (λ o. o.name) outs;
        command = command_is ∙ ap (λ q. let c : Command = command.Select (record { lets = []; body = q }) (map (λ o. o.name) outs) in c) same;
        plain = plain_is;
        unlisted = unlisted_is;
      }
