-- The meaning of a DROP TABLE statement, and its effect.
use Rattle.std.proofs.Common.{◌≡◌, ℕ, List, [], false, None, Ok, MatchBool, refl, sym, ap, subst, ◌∙◌}
use Rattle.sqlite.specs.Table.{Table}
use Rattle.sqlite.specs.Schema.{Schema}
use Rattle.sqlite.specs.Effect.{Database}
use Rattle.sqlite.specs.Tree.{Trees}
use Rattle.sqlite_schema.specs.declared.command.Command.TheVariants as command
use Rattle.sqlite_schema.specs.declared.schema.Keys.TheVariants.{Enforced}
use Rattle.sqlite_schema.specs.Names.{same_name}
use Rattle.sqlite_resolve.specs.Compile.{drop_table, command as command_in, returning, timed, meaning, planned, compiled, with_command}
use Rattle.sqlite.specs.Change.{without_table, KeepsRows}
use Rattle.sqlite.specs.Rows.{Task, Gives, Edited, sequence}
use Rattle.sqlite_rules.specs.Edit.{edit_of}
use Rattle.sqlite_rules.specs.Calls.{ids_of}
use Rattle.sqlite_rules.specs.declared.error.Rowids.TheVariants.{Given}
use Rattle.sqlite.specs.Does.{Tally, is_acted_on, Empties, Uncounts, UncountsIn}
use Rattle.sqlite.specs.Listing.{understood}
use Rattle.sqlite.specs.State.{State, Executes}
use Rattle.sqlite.proofs.Callers.{IsPlain, command_of, runs_as}
use Rattle.sql_base.proofs.Inserting.{went, same_value}
use Rattle.sql_tables.specs.Finds.{Finds}
use Rattle.remaking.specs.Drop.{IsDrop, DropsTable}
use Rattle.sql_tables.proofs.Lookups.{IsAt, is_at}

module _ (s : Schema) (t : Table) (f : Finds s t) (sql : List ℕ) (is : IsDrop sql t.name) where
  abbrev place : IsAt (λ u. same_name u.name t.name) s.tables t
  place = is_at _ s.tables t f.named

  drop_is : drop_table s false t.name ≡ Ok (command.DropTable place.at)
  unfolding drop_table
  drop_is = rw (is.free, f.stored, place.place) refl

  meaning_is : (base : ℕ) → meaning s is.parsed base ≡ Ok (command.DropTable place.at, None)
  unfolding meaning returning command_in
  meaning_is base = rw (is.statement, drop_is) refl

  compiled_is : compiled s sql ≡ Ok (with_command is.parsed ([], (command.DropTable place.at, None)))
  unfolding compiled planned timed
  compiled_is = rw (is.is, meaning_is, is.statement, is.timeless) refl

  understood_is : understood s sql ≡ Ok (with_command is.parsed ([], (command.DropTable place.at, None)))
  unfolding understood
  understood_is = rw compiled_is refl

  pub command_is : command_of (understood s sql) ≡ command.DropTable place.at
  command_is = rw understood_is refl

  pub plain : IsPlain (understood s sql)
  plain = rw understood_is (refl, refl)

empties_nothing : (task : Task) (db after : Trees) → is_acted_on task.schema task.keys task.table ≡ false → Empties task db (Ok after) → after ≡ db
empties_nothing task db after none h =
    same_value (subst (λ b. MatchBool b (Edited task.schema task.keys db (edit_of db task.table (ids_of (db task.table.tree)) Given 0 []) (Ok after)) (Gives db (Ok after))) none h)

uncounts_nothing : (task : Task) (db after : Trees) → task.table.is_counted ≡ false → Uncounts task db (Ok after) → after ≡ db
uncounts_nothing task db after none h = same_value (subst (λ b. UncountsIn task db (Rattle.std.proofs.Common.if◌then◌else◌ b (sequence task.schema) None) (Ok after)) none h)

pub drops : (sql : List ℕ) (old new : State) (count : ℕ) → Executes sql [] old new (Ok count) → DropsTable sql old.now new.now
drops sql old new count h table f is free uncounted =
    let schema = old.now.schema in
    let here = place schema table f sql is in
    let w = runs_as sql [] old new schema refl (command.DropTable here.at) (command_is schema table f sql is) (plain schema table f sql is) count h in
    let did = rw here.there at w.changed in
    let task : Task = record { limit = old.step_limit; keys = Enforced; schema = schema; table = table; params = [] } in
    let emptied = went did in
    let one : emptied.0 ≡ old.now.trees = empties_nothing task old.now.trees emptied.0 free emptied.1 in
    let uncount = went emptied.2 in
    let two : uncount.0 ≡ emptied.0 = uncounts_nothing task emptied.0 uncount.0 uncounted uncount.1 in
    let tested = went uncount.2 in
    let left = went tested.2 in
    let now : new.now ≡ left.0 = ap (λ (p : Tally × Database). p.1) (same_value left.2) in
    record {
      gone = ap (λ (d : Database). d.schema) now ∙ left.1.0;
      others = subst (λ (d : Database). KeepsRows (without_table schema table.tree).tables old.now.trees d.trees) (sym now) (subst (λ (d : Trees). KeepsRows (without_table schema table.tree).tables d left.0.trees) (two ∙ one) left.1.1);
    }
