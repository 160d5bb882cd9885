-- The effect of UPDATE and DELETE on the trees, in any schema whose foreign keys have no action.
use Rattle.std.proofs.Common.{◌≡◌, ℕ, List, [], map, drop, filter, slice_get, None, Some, Ok, sym, ap, subst, ◌∙◌}
use Rattle.std.specs.List.Sorted.{IsPermutation}
use Rattle.sqlite.specs.declared.types.Value.TheVariants.{Null}
use Rattle.sqlite.specs.Order.{Row}
use Rattle.sqlite.specs.Term.{Term}
use Rattle.sqlite.specs.Table.{Table}
use Rattle.sqlite.specs.Schema.{Schema}
use Rattle.sqlite.specs.Command.{Command}
use Rattle.sqlite.specs.Command.TheVariants.{Delete, Update}
use Rattle.sqlite.specs.Edit.{Edit, Applies, taken_by, edit_of, edited, put_all, without_all}
use Rattle.sqlite.specs.Cast.{cast_row}
use Rattle.sqlite.specs.Rowids.TheVariants.{Given}
use Rattle.sqlite.specs.Does.{Tally, Does, Concludes}
use Rattle.sqlite.specs.Rows.{Edited, Gives, Part, Queried, Task, Then, Written}
use Rattle.sqlite.specs.Effect.{Database}
use Rattle.sqlite.specs.Tree.{Trees}
use Rattle.sqlite.specs.Listing.{understood}
use Rattle.sqlite.specs.State.{Executes, State, mode_of}
use Rattle.sqlite.proofs.Callers.{IsPlain, command_of, statement_of, runs_as, one_step}
use Rattle.sqlite_schema.specs.declared.program.Program.{Program}
use Rattle.sqlite_schema.specs.declared.schema.Keys.TheVariants.{Enforced}
use Rattle.sqlite_rules.specs.Action.{works}
use Rattle.sqlite_rules.specs.Calls.{ids_of}
use Rattle.sqlite_rules.proofs.PlaceLemmas.{given}
use Rattle.sql_base.specs.Queries.{from_tree}
use Rattle.sql_base.specs.Effects.{Deleted, SparesOthers, Updated}
use Rattle.sql_base.proofs.Inserting.{went, same_value}
use Rattle.sql_base.proofs.Selecting.{passes, shown, answered}

module _ (sql : List ℕ) (params : Row) (old new : State) (schema : Schema) (has : old.now.schema ≡ schema) (at : ℕ) (table : Table) (filters project : List Term) where
  abbrev db : Trees
  db = old.now.trees

  abbrev program : Program
  program = record { lets = []; body = from_tree table.tree filters project }

  abbrev task : Task
  task = record { limit = old.step_limit; keys = Enforced; schema = schema; table = table; params = params }

  -- the effect of a command in a schema
  abbrev DoesAt : Schema → Command → Part (Tally × Database)
  DoesAt s command = Does old.step_limit (mode_of old) params (record old.now { schema = s }) (statement_of sql (understood schema sql)) None command

  -- The rows `found` are removed, and the rows made of them are inserted.
  module _ (from : ℕ) (sources : List Row → List Row) where
    abbrev edit_by : List Row → Edit
    edit_by found = edit_of db table (ids_of found) Given from (sources found)

    record EditsFound : Type 0 where
      kept : new.now.schema ≡ schema
      found : List Row
      all : IsPermutation (map (shown project params) (filter (passes filters params) (db table.tree))) found
      rows : new.now.trees table.tree ≡ edited db (edit_by found)
      others : SparesOthers schema table db new.now.trees

    -- `returned` are the rows that the statement returns.
    abbrev Edits : (returned : List Row → List Row) → Part Written
    Edits returned = Then (Queried old.step_limit (record old.now { schema = schema }) program params) (λ found.
        Then (Edited schema Enforced db (edit_by found)) (λ next. Gives (record { trees = next; rows = returned found; last = None })))

    edits_found : (returned : List Row → List Row) (none : (olds news : List Row) → works schema Enforced 0 table.tree olds news ≡ []) (tally : Tally)
        → Then (Edits returned) (Concludes task (mode_of old) None) (Ok (tally, new.now)) → EditsFound
    edits_found returned none tally does =
        let done = went does in
        let now = ap (λ (p : Tally × Database). p.1) (same_value (went (went done.2).2).2) in
        let found = went done.1 in
        let written = went found.2 in
        let trees : done.0.trees ≡ written.0 = ap (λ (it : Written). it.trees) (same_value written.2) in
        let edit = edit_by found.0 in
        let it : Applies schema Enforced db edit written.0 = one_step schema Enforced db written.0 edit (none (taken_by db edit) edit.news) written.1 in
        let at_last : new.now ≡ record { schema = schema; trees = written.0 } = now ∙ ap (λ (t : Trees). let d : Database = record { schema = schema; trees = t } in d) trees in
        let moved : new.now.trees ≡ written.0 = ap (λ (d : Database). d.trees) at_last in
        record {
          kept = ap (λ (d : Database). d.schema) at_last;
          found = found.0;
          all = answered table.tree filters project db params found.0 (found.1.answer Null);
          rows = ap (λ (t : Trees). t table.tree) moved ∙ it.rows;
          others = subst (λ (t : Trees). SparesOthers schema table db t) (sym moved) it.tables;
        }

  module _ (listed : slice_get schema.tables at ≡ Some table) (none : (olds news : List Row) → works schema Enforced 0 table.tree olds news ≡ []) where
    pub updated : command_of (understood schema sql) ≡ Update at program → IsPlain (understood schema sql) → (count : ℕ) → Executes sql params old new (Ok count)
        → Updated schema table (passes filters params) (shown project params) old new
    updated is plain count h =
        let w = runs_as sql params old new schema has (Update at program) is plain count h in
        let does = subst (λ s. DoesAt s (Update at program) (Ok (w.tally, new.now))) has w.changed in
        let it = edits_found 1 (λ found. found) (λ found. (edit_by 1 (λ rows. rows) found).news) none w.tally (rw listed at does) in
        let left = without_all (db table.tree) (ids_of it.found) in
        record {
          kept = it.kept;
          is_database = w.sound;
          found = it.found;
          all = it.all;
          rows = it.rows ∙ ap (put_all left) (given left (map (λ s. cast_row table (drop 1 s)) it.found));
          others = it.others;
          shown_as = w.shown;
        }

    pub deleted : command_of (understood schema sql) ≡ Delete at program → IsPlain (understood schema sql) → (count : ℕ) → Executes sql params old new (Ok count)
        → Deleted schema table (passes filters params) (shown project params) old new
    deleted is plain count h =
        let w = runs_as sql params old new schema has (Delete at program) is plain count h in
        let does = subst (λ s. DoesAt s (Delete at program) (Ok (w.tally, new.now))) has w.changed in
        let it = edits_found 0 (λ _. []) (λ found. taken_by db (edit_by 0 (λ _. []) found)) none w.tally (rw listed at does) in
        record { kept = it.kept; is_database = w.sound; found = it.found; all = it.all; rows = it.rows; others = it.others }
