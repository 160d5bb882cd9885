use Rattle.std.proofs.Common.{◌≡◌, ℕ, false, List, [], None, Ok, sym, ap, subst, ◌∙◌}
use Rattle.sqlite.specs.Table.{Table}
use Rattle.sqlite.specs.Schema.{Schema}
use Rattle.sqlite.specs.Effect.{Database}
use Rattle.sqlite.specs.Command.TheVariants.{CreateIndex, CreateTable}
use Rattle.sqlite.specs.Change.{created, indexed, next_tree, KeepsRows}
use Rattle.sqlite.specs.Does.{Does, Tally, lacks_sequence}
use Rattle.sqlite.specs.State.{State, Writes, Executes, mode_of}
use Rattle.sqlite.proofs.Callers.{runs_as}
use Rattle.sql_base.proofs.Inserting.{went, same_value}
use Rattle.sql_base.specs.Making.{Created, Defines, MakesIndex}

pub creates : (sql : List ℕ) (old new : State) (count : ℕ) → Executes sql [] old new (Ok count) → (schema : Schema) (table : Table) → old.now.schema ≡ schema → Defines sql schema table → Created schema table old.now new.now
creates sql old new count h schema table has is =
    let w = subst (λ t. Writes old new None CreateTable t [] count) is.text (runs_as sql [] old new schema has CreateTable is.command is.plain count h) in
    let all = went w.changed in
    let first = went all.1 in
    let made = first.1 in
    let both : Ok made.table ≡ Ok table = sym made.defined ∙ is.table_is in
    let same : made.table ≡ table = cc in
    let after : first.0.schema ≡ created schema table = made.is ∙ ap (λ s. created s made.table) has ∙ ap (created schema) same in
    let plain : lacks_sequence first.0.schema ≡ false = ap lacks_sequence after ∙ is.uncounted in
    let now : new.now ≡ first.0 = ap (λ (p : Tally × Database). p.1) (same_value all.2) ∙ same_value (rw plain at first.2) in
    record {
      made = ap (λ (d : Database). d.schema) now ∙ after;
      empty = ap (λ (d : Database). d.trees (next_tree schema)) now ∙ subst (λ s. first.0.trees (next_tree s) ≡ []) has made.empty;
      others = subst (λ (d : Database). KeepsRows schema.tables old.now.trees d.trees) (sym now) (subst (λ sc. KeepsRows sc.tables old.now.trees first.0.trees) has made.others);
    }

pub indexes : (sql : List ℕ) (old new : State) (count : ℕ) → Executes sql [] old new (Ok count) → MakesIndex sql old.now new.now
indexes sql old new count h schema at table index has is =
    let w = subst (λ t. Writes old new None (CreateIndex at) t [] count) is.text (runs_as sql [] old new schema has (CreateIndex at) is.command is.plain count h) in
    let did = subst (λ s. Does old.step_limit (mode_of old) [] (record old.now { schema = s }) sql None (CreateIndex at) (Ok (w.tally, new.now))) has w.changed in
    let done = went (rw is.listed at did) in
    let made = done.1 in
    let both : Ok made.index ≡ Ok index = sym made.defined ∙ is.index_is in
    let same : made.index ≡ index = cc in
    let now : new.now ≡ done.0 = ap (λ (p : Tally × Database). p.1) (same_value done.2) in
    record {
      made = ap (λ (d : Database). d.schema) now ∙ made.is ∙ ap (indexed schema table) same;
      rows = subst (λ (d : Database). KeepsRows schema.tables old.now.trees d.trees) (sym now) made.rows;
    }
