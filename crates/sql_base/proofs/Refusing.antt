-- Errors of SQL itself are never reported as disk errors.
use Rattle.std.proofs.Common.{◌≡◌, ◌⊎◌, ◌∙◌, Bool, Err, List, MatchBool, None, Option, Some, [], ap, false, inl, inr, refl, true, ◌∷◌, ℕ, ℤ}
use Rattle.std.specs.Option.{option_to_list}
use Rattle.std.specs.Prelude.{is_some, option_map}
use Rattle.sqlite.specs.Does.{AtPlace, Concludes, Counted, Defines, Does, Drops, Empties, HoldWithout, IsKeptAside, Leaves, MakesIndex, MakesTable, MakesView, OnRows, OnTable, Redefines, Returns, Shows, Tally, Tested, UncountsIn, WritesRows, is_acted_on, lacks_sequence, sequence_text}
use Rattle.sqlite.specs.Effect.{Database, IsNoText, RefusesToAlter, RefusesToRead, alter_error, edit_error}
use Rattle.sqlite.specs.Order.{Row}
use Rattle.sqlite.specs.Rows.{Clears, Counter, CounterIn, Counts, CountsIn, Deletes, Edited, Gives, Inserts, InsertsOr, Judged, Meets, Part, Puts, Queried, Refuses, Resolves, Sourced, Task, Then, Tries, TriesEach, Updates, Upserts, Written, counting, passes_over, sequence, stamped}
use Rattle.sqlite.specs.State.{is_disk_error}
use Rattle.sqlite.specs.Tree.{Trees}
use Rattle.sqlite.specs.declared.error.Error.{Error}
use Rattle.sqlite.specs.declared.error.Error.TheVariants.{InvalidQuery, SqliteFailure}
use Rattle.sqlite.specs.declared.error.ErrorCode.TheVariants as code
use Rattle.sqlite.specs.declared.run.Mode.{Mode}
use Rattle.sqlite_catalog.specs.Calls.{RefusesIndex, RefusesTable, RefusesToDropIndex, RefusesView}
use Rattle.sqlite_catalog.specs.Change.{without_index, without_table, without_view}
use Rattle.sqlite_catalog.specs.declared.error.Refusal as alter
use Rattle.sqlite_catalog.specs.declared.error.Refusal.TheVariants as reason
use Rattle.sqlite_rules.specs.Calls.{ids_of}
use Rattle.sqlite_rules.specs.Edit.{Edit, edit_of}
use Rattle.sqlite_rules.specs.declared.error.Refusal.{Refusal}
use Rattle.sqlite_rules.specs.declared.error.Refusal.TheVariants as why
use Rattle.sqlite_rules.specs.declared.error.Rowids.TheVariants.{Given}
use Rattle.sqlite_schema.specs.declared.command.Command.{Command}
use Rattle.sqlite_schema.specs.declared.command.Command.TheVariants.{CreateIndex, CreateTable, CreateView, Delete, DropIndex, DropTable, DropView, Insert, InsertOr, Rows, Select, Update}
use Rattle.sqlite_schema.specs.declared.command.Conflict.{Conflict}
use Rattle.sqlite_schema.specs.declared.command.Conflict.TheVariants.{Abort, Ignore, Replace}
use Rattle.sqlite_schema.specs.declared.command.Returning.{Returning}
use Rattle.sqlite_schema.specs.declared.command.Source.{Source}
use Rattle.sqlite_schema.specs.declared.command.Source.TheVariants as source
use Rattle.sqlite_schema.specs.declared.command.Upsert.{Upsert}
use Rattle.sqlite_schema.specs.declared.program.Program.{Program}
use Rattle.sqlite_schema.specs.declared.schema.Among.{Among}
use Rattle.sqlite_schema.specs.declared.schema.Constraint.TheVariants.{ForeignKey}
use Rattle.sqlite_schema.specs.declared.schema.Keys.{Keys}
use Rattle.sqlite_schema.specs.declared.schema.Schema.{Schema}
use Rattle.sqlite_schema.specs.Rules.{Refers}
use Rattle.sqlite_schema.specs.declared.schema.Table.{Table}

-- No error that the part `P` returns by itself is a disk error.
pub record Spares {A : Type 0} (P : Part A) : Type 0 where
  pub none : (e : Error) → P (Err (Some e)) → is_disk_error e ≡ false

gives : {A : Type 0} (a : A) → Spares (Gives a)
gives a = record { none = λ e it. absurd (cc it) }

refuses : {A : Type 0} (x : Error) → is_disk_error x ≡ false → Spares {A = A} (Refuses x)
refuses x is = record { none = λ e it. let same : e ≡ x = cc it in ap is_disk_error same ∙ is }

then : {A B : Type 0} (First : Part A) (Next : A → Part B) → Spares First → ((a : A) → Spares (Next a)) → Spares (Then First Next)
then First Next one two = record {
  none = λ e it. elim it [
    | inl stopped ↦ let same : stopped.0 ≡ Some e = cc stopped.2 in one.none e (rw same at stopped.1)
    | inr went ↦ (two went.0).none e went.2
  ];
}

either : {A : Type 0} (b : Bool) (P Q : Part A) → Spares P → Spares Q → Spares (λ out. MatchBool b (P out) (Q out))
either true P Q p q = record { none = p.none }
either false P Q p q = record { none = q.none }

queried : (limit : Option ℕ) (db : Database) (q : Program) (params : Row) → Spares (Queried limit db q params)
queried limit db q params = record {
  none = λ e it. elim it [
    | inl typed ↦ ap is_disk_error typed.0
    | inr (inl over) ↦ ap is_disk_error over.0
    | inr (inr stopped) ↦ ap is_disk_error stopped.0
  ];
}

sourced : (limit : Option ℕ) (db : Database) (params : Row) (from : Source) → Spares (Sourced limit db params from)
sourced limit db params (source.Values terms width) = record {
  none = λ e it. elim it [
    | inl typed ↦ ap is_disk_error typed.0
    | inr stopped ↦ ap is_disk_error stopped.0
  ];
}
sourced limit db params (source.Query q) = record { none = (queried limit db q params).none }

edit_refusal : (why : Refusal) → is_disk_error (edit_error why) ≡ false
edit_refusal (why.Violates rule) = refl
edit_refusal why.Mismatch = refl
edit_refusal why.BadReference = refl
edit_refusal why.NoRowid = refl
edit_refusal why.TooDeep = refl

alter_refusal : (why : alter.Refusal) → is_disk_error (alter_error why) ≡ false
alter_refusal (reason.Invalid e) = refl
alter_refusal reason.NameTaken = refl
alter_refusal reason.BadName = refl
alter_refusal reason.BadKey = refl
alter_refusal reason.BadText = refl
alter_refusal reason.TooBig = refl
alter_refusal (reason.Violates rule) = refl

some_refusal : (e : Error) (why : Option Refusal) → Some e ≡ option_map edit_error why → is_disk_error e ≡ false
some_refusal e None is = absurd (cc is)
some_refusal e (Some why) is = let same : e ≡ edit_error why = cc is in ap is_disk_error same ∙ edit_refusal why

edited : (schema : Schema) (keys : Keys) (db : Trees) (edit : Edit) → Spares (Edited schema keys db edit)
edited schema keys db edit = record { none = λ e it. some_refusal e it.0 it.2 }

counted : (limit : Option ℕ) (rows : List Row) → Spares (Counted limit rows)
counted limit rows = record { none = λ e it. let same : e ≡ SqliteFailure code.OperationInterrupted = cc it.1 in ap is_disk_error same }

tested : (mode : Mode) (Holds : Among → Type 0) → Spares (Tested mode Holds)
tested mode Holds = record { none = λ e it. let same : e ≡ SqliteFailure (code.ConstraintViolation ForeignKey) = cc it.1 in ap is_disk_error same }

at_place : {X A : Type 0} (P : X → Part A) (o : Option X) → ((x : X) → Spares (P x)) → Spares (AtPlace P o)
at_place P None all = record { none = (refuses InvalidQuery refl).none }
at_place P (Some x) all = record { none = (all x).none }

leaves : (schema : Schema) (db : Trees) (Refused : Error → Type 0) → ((e : Error) → Refused e → is_disk_error e ≡ false) → Spares (Leaves schema db Refused)
leaves schema db Refused plain = record { none = plain }

-- ---- rows

module _ (task : Task) where
  open task use {limit, keys, schema, table, params}

  counter_in : (db : Trees) (o : Option Table) → Spares (CounterIn task db o)
  counter_in db None = record { none = (refuses InvalidQuery refl).none }
  counter_in db (Some counters) = record { none = (gives _).none }

  counter : (db : Trees) → Spares (Counter task db)
  counter db = either table.is_counted (CounterIn task db (sequence schema)) (Gives None) (counter_in db (sequence schema)) (gives None)

  counts_in : (db : Trees) (row : Option Row) (top : ℤ) (o : Option Table) → Spares (CountsIn task db row top o)
  counts_in db row top None = record { none = (refuses InvalidQuery refl).none }
  counts_in db row top (Some counters) = record { none = (edited schema keys db (counting db table counters top row)).none }

  counts : (db : Trees) (row : Option Row) (top : ℤ) → Spares (Counts task db row top)
  counts db row top = either _ (CountsIn task db row top (sequence schema)) (Gives db) (counts_in db row top (sequence schema)) (gives db)

  updates : (q : Program) (given : Row) (db : Trees) → Spares (Updates task q given db)
  updates q given db = then _ _ (queried limit (record { schema = schema; trees = db }) q given) (λ rows. then _ _ (edited schema keys db _) (λ next. gives _))

  deletes : (q : Program) (db : Trees) → Spares (Deletes task q db)
  deletes q db = then _ _ (queried limit (record { schema = schema; trees = db }) q params) (λ rows. then _ _ (edited schema keys db _) (λ next. gives _))

  inserts : (from : Source) (db : Trees) → Spares (Inserts task from db)
  inserts from db = then _ _ (sourced limit (record { schema = schema; trees = db }) (stamped table params) from) (λ rows.
      then _ _ (counter db) (λ row. then _ _ (edited schema keys db _) (λ mid. then _ _ (counts mid row _) (λ next. gives _))))

  puts : (new : Row) (db : Trees) → Spares (Puts task new db)
  puts new db = then _ _ (edited schema keys db _) (λ next. gives _)

  clears : (way : Conflict) (new : Row) (db : Trees) (found : List Row) → Spares (Clears task way new db found)
  clears way new db [] = record { none = (puts new db).none }
  clears Abort new db (x ∷ more) = record { none = (puts new db).none }
  clears Ignore new db (x ∷ more) = record { none = (gives _).none }
  clears Replace new db (x ∷ more) = then _ _ (edited schema keys db _) (puts new)

  resolves : (new : Row) (db : Trees) (there : Row) (o : Option Program) → Spares (Resolves task new db there o)
  resolves new db there None = record { none = (gives _).none }
  resolves new db there (Some q) = record { none = (updates q _ db).none }

  meets : (Otherwise : Part Written) (new : Row) (db : Trees) (clause : Upsert) (found : List Row) → Spares Otherwise → Spares (Meets task Otherwise new db clause found)
  meets Otherwise new db clause [] other = record { none = other.none }
  meets Otherwise new db clause (there ∷ more) other = record { none = (resolves new db there clause.update).none }

  upserts : (way : Conflict) (new : Row) (db : Trees) (clauses : List Upsert) → Spares (Upserts task way new db clauses)
  upserts way new db [] = record { none = λ e it. (clears way new db it.0).none e it.2 }
  upserts way new db (clause ∷ more) = record { none = λ e it. (meets _ new db clause it.0 (upserts way new db more)).none e it.2 }

  judged : (way : Conflict) (clauses : List Upsert) (new : Row) (db : Trees) (verdict : Option Refusal) → Spares (Judged task way clauses new db verdict)
  judged way clauses new db None = record { none = (upserts way new db clauses).none }
  judged way clauses new db (Some why) = record { none = (either (passes_over way why) _ _ (gives _) (refuses (edit_error why) (edit_refusal why))).none }

  tries : (way : Conflict) (clauses : List Upsert) (new : Row) (db : Trees) → Spares (Tries task way clauses new db)
  tries way clauses new db = record {
    none = λ e it. elim it [
      | inl high ↦ (refuses {A = Written} (SqliteFailure code.NoRowid) refl).none e high.1
      | inr went ↦ (judged way clauses new db went.0).none e went.2
    ];
  }

  tries_each : (way : Conflict) (clauses : List Upsert) (rows : List Row) (top : ℤ) (done : Written) → Spares (TriesEach task way clauses rows top done)
  tries_each way clauses [] top done = record { none = (gives _).none }
  tries_each way clauses (row ∷ more) top done = then _ _ (tries way clauses _ done.trees) (λ one. tries_each way clauses more _ _)

  inserts_or : (way : Conflict) (clauses : List Upsert) (from : Source) (db : Trees) → Spares (InsertsOr task way clauses from db)
  inserts_or way clauses from db = then _ _ (sourced limit (record { schema = schema; trees = db }) (stamped table params) from) (λ rows.
      then _ _ (counter db) (λ row. then _ _ (tries_each way clauses rows _ _) (λ done. then _ _ (counts done.0.trees row done.1) (λ next. gives _))))

  shows : (what : Returning) (now : Trees) (rows : List Row) → Spares (Shows task what now rows)
  shows what now [] = record { none = (gives _).none }
  shows what now (row ∷ more) = then _ _ (sourced limit _ _ what.row) (λ first. then _ _ (shows what now more) (λ others. gives _))

  returns : (w : Written) (o : Option Returning) → Spares (Returns task w o)
  returns w None = record { none = (gives _).none }
  returns w (Some what) = then _ _ (shows what w.trees w.rows) (λ rows. then _ _ (counted limit rows) (λ _. gives _))

  concludes : (mode : Mode) (o : Option Returning) (w : Written) → Spares (Concludes task mode o w)
  concludes mode o w = then _ _ (tested mode (λ among. Refers among schema w.trees)) (λ in_doubt. then _ _ (returns w o) (λ rows. gives _))

  writes_rows : (db : Trees) (command : Command) → Spares (WritesRows task db command)
  writes_rows db (Insert at from) = record { none = (inserts from db).none }
  writes_rows db (InsertOr at way from clauses) = record { none = (inserts_or way clauses from db).none }
  writes_rows db (Update at q) = record { none = (updates q params db).none }
  writes_rows db (Delete at q) = record { none = (deletes q db).none }
  writes_rows db _ = record { none = (refuses {A = Written} InvalidQuery refl).none }

  on_rows : (mode : Mode) (o : Option Returning) (command : Command) (db : Trees) → Spares (OnRows task mode o command db)
  on_rows mode o command db = then _ _ (writes_rows db command) (concludes mode o)

  -- ---- tables, indexes and views

  empties : (db : Trees) → Spares (Empties task db)
  empties db =
      let edit = edit_of db table (ids_of (db table.tree)) Given 0 [] in
      either (is_acted_on schema keys table) (Edited schema keys db edit) (Gives db) (edited schema keys db edit) (gives db)

  uncounts_in : (db : Trees) (o : Option Table) → Spares (UncountsIn task db o)
  uncounts_in db None = record { none = (gives db).none }
  uncounts_in db (Some counters) = then _ _ (counter db) (λ row. edited schema keys db (edit_of db counters (ids_of (option_to_list row)) Given 0 []))

  drops : (mode : Mode) (db : Trees) → Spares (Drops task mode db)
  drops mode db =
      then _ _ (empties db) (λ emptied. then _ _ (uncounts_in emptied _) (λ now. then _ _ (tested mode (HoldWithout task now)) (λ in_doubt.
      then _ _ (leaves (without_table schema table.tree) now (λ _. ⊥) (λ e none. absurd none)) (λ after. gives _))))

to_alter : (Refused : alter.Refusal → Type 0) (e : Error) → RefusesToAlter Refused e → is_disk_error e ≡ false
to_alter Refused e it = ap is_disk_error it.2 ∙ alter_refusal it.0

made : (text : List ℕ) (Refused : alter.Refusal → Type 0) (e : Error) → IsNoText text e ⊎ RefusesToAlter Refused e → is_disk_error e ≡ false
made text Refused e (inl coded) = ap is_disk_error coded.1
made text Refused e (inr refused) = to_alter Refused e refused

makes_table : (text : List ℕ) (db : Database) → Spares (MakesTable text db)
makes_table text db = record { none = made text (RefusesTable db.schema text) }

module _ (limit : Option ℕ) (mode : Mode) (params : Row) (db : Database) where
  on_table : (at : ℕ) (P : Task → Part (Tally × Database)) → ((task : Task) → Spares (P task)) → Spares (OnTable limit mode params db at P)
  on_table at P all = at_place _ _ (λ table. all _)

  defines : (Makes : Part Database) → Spares Makes → Spares (Defines mode Makes)
  defines Makes spares = then _ _ spares (λ after. gives _)

  redefines : (text : List ℕ) (command : Command) → Spares (Redefines limit mode params db text command)
  redefines text CreateTable = defines _ (then _ _ (makes_table text db) (λ after. either (lacks_sequence after.schema) (MakesTable sequence_text after) (Gives after) (makes_table sequence_text after) (gives after)))
  redefines text (CreateIndex at) = on_table at _ (λ task. defines (MakesIndex text db task.table) (record { none = made text (RefusesIndex db.schema db.trees task.table text) }))
  redefines text CreateView = defines (MakesView text db) (record { none = made text (RefusesView db.schema text) })
  redefines text (DropTable at) = on_table at _ (λ task. drops task mode db.trees)
  redefines text (DropIndex at) = at_place _ _ (λ index. defines _ (leaves (without_index db.schema index.tree) db.trees (RefusesToAlter (RefusesToDropIndex index)) (to_alter (RefusesToDropIndex index))))
  redefines text (DropView at) = at_place _ _ (λ view. defines _ (leaves (without_view db.schema view.tree) db.trees (IsKeptAside view) (λ e it. ap is_disk_error it.1)))
  redefines text _ = record { none = (refuses {A = Tally × Database} InvalidQuery refl).none }

  pub does : (text : List ℕ) (o : Option Returning) (command : Command) → Spares (Does limit mode params db text o command)
  does text o (Insert at from) = on_table at _ (λ task. on_rows task mode o (Insert at from) db.trees)
  does text o (InsertOr at way from clauses) = on_table at _ (λ task. on_rows task mode o (InsertOr at way from clauses) db.trees)
  does text o (Update at q) = on_table at _ (λ task. on_rows task mode o (Update at q) db.trees)
  does text o (Delete at q) = on_table at _ (λ task. on_rows task mode o (Delete at q) db.trees)
  does text o command = either (is_some o) _ _ (refuses {A = Tally × Database} InvalidQuery refl) (redefines text command)

pub reads : (limit : Option ℕ) (command : Command) (db : Database) (params : Row) (e : Error) → RefusesToRead limit command db params e → is_disk_error e ≡ false
reads limit (Select q names) db params e it = (queried limit db q params).none e it
reads limit (Rows values width names) db params e it = ap is_disk_error it.0
reads limit _ db params e it = ap is_disk_error it
