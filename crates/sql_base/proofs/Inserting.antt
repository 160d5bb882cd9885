-- The effect of an INSERT of rows on the trees, in any schema whose foreign keys have no action.
use Rattle.std.proofs.Common.{◌≡◌, ◌⊎◌, inl, inr, ℕ, ◌/◌, ◌-◌, List, [], ◌∷◌, ◌++◌, length, drop, map, slice_get, MatchBool, fold, ℤ, true, false, Some, None, Option, Ok, Err, Result, refl, sym, ap, subst, ◌∙◌, append-nil, if◌then◌else◌, arith}
use Rattle.std.proofs.lemmas.Bool.{cases_Bool}
use Rattle.std.specs.List.Sorted.{IsPermutation}
use Rattle.std.proofs.lemmas.List.Sorted.{IsPermutation-refl, IsPermutation-trans, IsPermutation-cons}
use Rattle.std.specs.declared.cmp.Ordering.{Ordering}
use Rattle.std.specs.declared.cmp.Ordering.TheVariants.{Less, Equal, Greater}
use Rattle.std.specs.Ordering.{is_eq, match_ordering}
use Rattle.sqlite.specs.Order.{Row}
use Rattle.sqlite_value.specs.Order.{value_cmp}
use Rattle.sqlite.specs.Term.{Term}
use Rattle.sqlite.specs.Table.{Table}
use Rattle.sqlite.specs.Schema.{Schema}
use Rattle.sqlite.specs.Source.TheVariants.{Values}
use Rattle.sqlite.specs.Command.TheVariants.{Insert}
use Rattle.sqlite.specs.Edit.{Edit, taken_by, Applies, are_fresh, edit_of, edited, is_taken, numbered, put_all}
use Rattle.sqlite.specs.Cast.{cast_row}
use Rattle.sqlite.specs.Rowids.TheVariants.{Chosen, Above}
use Rattle.sqlite.specs.Does.{Tally, Does}
use Rattle.sqlite.specs.Rows.{Written, higher, rowids_for, Task, Outcome, Gives, Counts, CountsIn, count_of, sequence, stamped}
use Rattle.std.specs.Ordering.{is_lt, int_cmp}
use Rattle.sqlite.specs.Effect.{Database, value_rows}
use Rattle.sqlite.specs.Tree.{Trees, rowid, put_row}
use Rattle.sqlite.specs.Listing.{understood}
use Rattle.sqlite.specs.State.{State, mode_of, Executes}
use Rattle.sqlite.proofs.Callers.{IsPlain, command_of, statement_of, runs_as, one_step}
use Rattle.sqlite_schema.specs.declared.schema.Keys.TheVariants.{Enforced}
use Rattle.sqlite_rules.specs.Action.{works, Writes}
use Rattle.sql_base.specs.Columns.{no_stamps}
use Rattle.sqlite_schema.specs.declared.schema.Stamps.{Stamps}
use Rattle.sqlite.specs.Term.{eval_all}
use Rattle.sql_base.specs.Effects.{Inserted, SparesOthers}

-- A part that returned a value was not stopped before.
pub went : {B E R : Type 0} {b : B} {Stops : E → Type 0} → ((stop : E) × Stops stop × (Ok b ≡ Err stop)) ⊎ R → R
went (inl stopped) = absurd (let e = stopped.2 in cc)
went (inr on) = on

pub same_value : {B E : Type 0} {a b : B} → ◌≡◌ {A = Result B E} (Ok a) (Ok b) → a ≡ b
same_value e = cc

pub swap_two : {X : Type 0} (a b : X) (xs : List X) → IsPermutation (a ∷ b ∷ xs) (b ∷ a ∷ xs)
swap_two a b xs = record { moves = (0, 1) ∷ []; below = (omega arith, omega arith, tt); is = refl }

put_case : (o : Ordering) (r x : Row) (xs put : List Row) → is_eq o ≡ false → IsPermutation (r ∷ xs) put → IsPermutation (r ∷ x ∷ xs) (match_ordering o (x ∷ put) (r ∷ xs) (r ∷ x ∷ xs))
put_case Less r x xs put ne h = IsPermutation-trans _ _ _ (swap_two r x xs) (IsPermutation-cons x _ _ h)
put_case Equal r x xs put ne h = absurd (cc)
put_case Greater r x xs put ne h = IsPermutation-refl _

-- A row with a free rowid is added to the others.
pub put_fresh : (r : Row) (rows : List Row) → is_taken rows r ≡ false → IsPermutation (r ∷ rows) (put_row r rows)
put_fresh r [] free = IsPermutation-refl _
put_fresh r (x ∷ rows) free = elim (cases_Bool (is_eq (value_cmp (rowid x) (rowid r)))) [
  | inl e ↦ absurd (let f = rw e at free in cc)
  | inr e ↦ put_case (value_cmp (rowid x) (rowid r)) r x rows (put_row r rows) e (put_fresh r rows (rw e at free))
]

counts_nothing : (task : Task) (mid : Trees) (counter : Option Row) (top : ℤ) (out : Outcome Trees) → task.table.is_counted ≡ false → Counts task mid counter top out → out ≡ Ok mid
counts_nothing task mid counter top out none h =
    subst (λ b. MatchBool (if b then is_lt (int_cmp (count_of counter) top) else false) (CountsIn task mid counter top (sequence task.schema) out) (Gives mid out)) none h

stamps_nothing : (table : Table) (params : Row) → table.stamps ≡ no_stamps → stamped table params ≡ params
stamps_nothing table params none = ap (λ (s : Stamps). params ++ eval_all s.terms (drop (length params - length s.formats) params ∷ [])) none ∙ append-nil params

pub one_fresh : (rows : List Row) (r : Row) → are_fresh rows (r ∷ []) ≡ true → is_taken rows r ≡ false
one_fresh rows r h = elim (cases_Bool (is_taken rows r)) [ inl taken ↦ absurd (let e = rw taken at h in cc) | inr free ↦ free ]

module _ (sql : List ℕ) (params : Row) (old new : State) (schema : Schema) (has : old.now.schema ≡ schema)
    (at : ℕ) (table : Table) (terms : List Term) (width : ℕ)
    (is : command_of (understood schema sql) ≡ Insert at (Values terms width)) (plain : IsPlain (understood schema sql))
    (listed : slice_get schema.tables at ≡ Some table) (uncounted : table.is_counted ≡ false) (unstamped : table.stamps ≡ no_stamps)
    (values stored : List Row) (all : value_rows params width (length terms / width) terms ≡ values) (cast : map (cast_row table) values ≡ stored)
    (none : (olds news : List Row) → works schema Enforced 0 table.tree olds news ≡ []) where
  pub inserted : (count : ℕ) → Executes sql params old new (Ok count) → Inserted schema table stored old new
  inserted count h =
      let db = old.now.trees in
      let command = Insert at (Values terms width) in
      let w = runs_as sql params old new schema has command is plain count h in
      let text = statement_of sql (understood schema sql) in
      let did = subst (λ s. Does old.step_limit (mode_of old) params (record old.now { schema = s }) text None command (Ok (w.tally, new.now))) has w.changed in
      let done = went (rw listed at did) in
      let now = ap (λ (p : Tally × Database). p.1) (same_value (went (went done.2).2).2) in
      let given = went done.1 in
      let counter = went given.2 in
      let written = went counter.2 in
      let counted = went written.2 in
      let task : Task = record { limit = old.step_limit; keys = Enforced; schema = schema; table = table; params = params } in
      let top = fold higher (count_of counter.0) (edit_of db table [] (rowids_for table (count_of counter.0)) 0 given.0).news in
      let same : counted.0 ≡ written.0 = same_value (counts_nothing task written.0 counter.0 top (Ok counted.0) uncounted counted.1) in
      let trees : done.0.trees ≡ written.0 = ap (λ (it : Written). it.trees) (same_value counted.2) ∙ same in
      let rows : given.0 ≡ values = subst (λ (p : Row). given.0 ≡ value_rows p width (length terms / width) terms) (stamps_nothing table params unstamped) given.1.1 ∙ all in
      let edit : Edit = edit_of db table [] Chosen 0 values in
      let same_edit : edit_of db table [] (rowids_for table (count_of counter.0)) 0 given.0 ≡ edit =
      ap (λ b. edit_of db table [] (if b then Above (count_of counter.0) else Chosen) 0 given.0) uncounted ∙ ap (edit_of db table [] Chosen 0) rows in
      let it : Applies schema Enforced db edit written.0 = one_step schema Enforced db written.0 edit (none (taken_by db edit) edit.news) (subst (λ e. Writes schema Enforced db e (Ok written.0)) same_edit written.1) in
      let put : edited db edit ≡ put_all (db table.tree) (numbered Chosen (db table.tree) stored) = ap (λ rs. put_all (db table.tree) (numbered Chosen (db table.tree) rs)) cast in
      let free : are_fresh (db table.tree) (numbered Chosen (db table.tree) stored) ≡ true = subst (λ rs. are_fresh (db table.tree) (numbered Chosen (db table.tree) rs) ≡ true) cast it.fresh in
      let at_last : new.now ≡ record { schema = schema; trees = written.0 } = now ∙ ap (λ (t : Trees). let d : Database = record { schema = schema; trees = t } in d) trees in
      let moved : new.now.trees ≡ written.0 = ap (λ (d : Database). d.trees) at_last in
      record {
        kept = ap (λ (d : Database). d.schema) at_last;
        is_database = w.sound;
        rows = ap (λ (t : Trees). t table.tree) moved ∙ it.rows ∙ put;
        fresh = free;
        others = subst (λ (t : Trees). SparesOthers schema table db t) (sym moved) it.tables;
        shown = w.shown;
      }
