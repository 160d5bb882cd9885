-- A query that never writes, and whose rows are read one at a time.
use Rattle.std.proofs.Common.{◌≡◌, ◌+◌, ◌≤◌, ◌<ℤ◌, ◌⊎◌, ◌++◌, ℤ, ap, ◌∙◌, IsTrue, List, None, Ok, Err, Option, Result, Some, [], ◌∷◌, append-nil, append_assoc, arith, inl, inr, refl, subst, sym, true, ℕ}
use Rattle.std.specs.List.{AllZip}
use Rattle.std.proofs.lemmas.Bool.{cases_Bool}
use Rattle.sqlite.specs.Given.{HasBegun, HasGiven, Returns}
use Rattle.sqlite.specs.Effect.{Database}
use Rattle.sqlite.specs.Held.{Held, state}
use Rattle.sqlite.specs.Listing.{if_select, is_select, listing_schema, reads_listing, understood}
use Rattle.sqlite.specs.Order.{Row}
use Rattle.sqlite.specs.Schema.{Schema}
use Rattle.sqlite.specs.State.{CommitsShowing, FailsToQuery, FailsToShow, IsNotRun, IsRolledBack, IsUnchanged, Shown, State, Survives}
use Rattle.sqlite.specs.Store.{Ghosts}
use Rattle.sqlite.specs.Term.{Term}
use Rattle.sqlite.specs.Tree.{Trees, rowid}
use Rattle.sqlite.specs.declared.types.Value.TheVariants.{Int}
use Rattle.sqlite.specs.declared.error.Error.{Error}
use Rattle.sqlite.proofs.StateLemmas.{survives_weaker}
use Rattle.sqlite_ast.specs.declared.Select.{Select}
use Rattle.sqlite_ast.specs.declared.Statement.{Statement}
use Rattle.sqlite_ast.specs.declared.Statement.TheVariants as written
use Rattle.sqlite_resolve.specs.Compile.{command, compiled, first, is_stored, meaning, planned, returning, small, timed, with_command}
use Rattle.sqlite_resolve.specs.Lowering.{Checked, and_then}
use Rattle.sqlite_resolve.specs.Scope.{Name}
use Rattle.sqlite_resolve.specs.declared.compiled.Compiled.{Compiled}
use Rattle.sqlite_resolve.specs.declared.error.CompileError.{CompileError}
use Rattle.sqlite_schema.specs.declared.command.Command.{Command}
use Rattle.sqlite_schema.specs.declared.command.Returning.{Returning}
use Rattle.sqlite_syntax.specs.Statement.{parse}
use Rattle.sqlite_syntax.specs.declared.statement.Parsed.{Parsed}
use Rattle.sql_base.specs.Causes.{HadCause}
use Rattle.sql_base.specs.Ends.{IsKept}
use Rattle.sql_base.proofs.Causing.{queried_had}
use Rattle.table_reads.specs.Rowids.{AreRising, IsRisingFrom, int_in, rowid_int}
use Rattle.table_reads.specs.Converted.{AreTyped}
use Rattle.table_reads.specs.Streaming.{AreRisingAfter, IsAbove, HasNoReturning, StandSoFar}
use Rattle.table_reads.specs.Whole.{AreShown, Asks, with_rowid}
use Rattle.table_reads.proofs.Causes.{had_since}
use Rattle.table_reads.proofs.Rising.{rising_shown}

-- ---- a text that is a query

planned_none : (r : Checked Command) (p : Parsed) (formats : List Name) → Returns (and_then (and_then (and_then r (λ c. Ok (c, None))) (λ found. Ok (formats, found))) (λ plan. Ok (with_command p plan))) → ⊥
planned_none (Ok c) p formats h = absurd (cc)
planned_none (Err e) p formats h = h

selected_none : (r : Result Compiled CompileError) → (Returns r → ⊥) → Returns (if_select r) → ⊥
selected_none (Err e) none h = h
selected_none (Ok c) none h = elim (cases_Bool (is_select c.command)) [
  | inl is ↦ none (rw is at h)
  | inr other ↦ rw other at h
]

module _ (sql : List ℕ) (p : Parsed) (parsed : parse sql ≡ Ok p) (query : Select) (is : p.statement ≡ written.Select query) where
  first_is : first sql ≡ Ok p
  unfolding first is_stored
  first_is = rw (parsed, is) refl

  compiled_none : (s : Schema) → Returns (compiled s sql) → ⊥
  unfolding compiled planned meaning returning
  compiled_none s h =
      let text : Statement = written.Select query in
      planned_none (command s p.formats (small p.names + small (timed s p.formats text)) text) p (timed s p.formats text) (rw (first_is, is) at h)

  pub never : HasNoReturning sql
  unfolding understood
  never s h = elim (cases_Bool (reads_listing s sql)) [
    | inl listed ↦ selected_none (compiled listing_schema sql) (compiled_none listing_schema) (rw listed at h)
    | inr found ↦ compiled_none s (rw found at h)
  ]

-- ---- a query that never writes

module _ (sql : List ℕ) (params : Row) (never : HasNoReturning sql) where
  none_commit : (s : State) (db : Trees) → CommitsShowing sql params s db → ⊥
  unfolding CommitsShowing
  none_commit s db h = never s.now.schema (subst Returns (sym h.1.is) h.2)

  pub commits_nothing : (old new : State) → Survives old new (CommitsShowing sql params old) → Survives old new (λ _. ⊥)
  commits_nothing old new = survives_weaker old new _ _ (λ _ db. none_commit old db)

  pub begun : {S : Type 0} (g : Ghosts S) (old new : Held S) → HasBegun g sql params old new → HasGiven g sql params new [] × IsUnchanged (state g old) (state g new)
  begun g old new (inl h) = h
  begun g old new (inr h) = absurd (never old.schema h.0)

  fails_to_show : (old new : State) (c : Compiled) (ps : Row) (e : Error) (o : Option Returning) → FailsToShow old new sql c ps e o → (Returns (Ok (record c { returning = o })) → ⊥) → IsUnchanged old new
  fails_to_show old new c ps e None h none = h.3
  fails_to_show old new c ps e (Some what) h none = absurd (none refl)

  pub undone_or_same : (old new : State) (e : Error) → FailsToQuery sql params old new e → IsUnchanged old new ⊎ IsRolledBack old new
  unfolding FailsToQuery IsNotRun
  undone_or_same old new e (inl (inl h)) = inl h.1
  undone_or_same old new e (inl (inr h)) = inr h.3
  undone_or_same old new e (inr h) = inl (fails_to_show old new h.0 _ e h.0.returning h.2 (λ some. never old.now.schema (subst Returns (sym h.1.is) some)))

-- ---- one more row

zip_more : {X : Type 0} (R : Row → X → Type 0) (rows : List Row) (xs : List X) (row : Row) (x : X) → AllZip R rows xs → R row x → AllZip R (rows ++ row ∷ []) (xs ++ x ∷ [])
zip_more R [] [] row x all one = (one, tt)
zip_more R [] (y ∷ ys) row x all one = absurd all
zip_more R (r ∷ rows) [] row x all one = absurd all
zip_more R (r ∷ rows) (y ∷ ys) row x all one = (all.0, zip_more R rows ys row x all.1 one)

pub zip_pushed : {X : Type 0} (R : Row → X → Type 0) (rows : List Row) (xs ys : List X) (row : Row) (x : X) → AllZip R rows xs → R row x → ys ≡ xs ++ x ∷ [] → AllZip R (rows ++ row ∷ []) ys
zip_pushed R rows xs ys row x all one pushed = subst (AllZip R (rows ++ row ∷ [])) (sym pushed) (zip_more R rows xs row x all one)

leads : (last : Option ℤ) (z : ℤ) (row : Row) (more : List Row) → Int z ≡ rowid row → IsAbove last z → IsRisingFrom z more → AreRisingAfter last (row ∷ more)
leads None z row more is above rising =
    let same : rowid_int row ≡ z = ap int_in (sym is) in
    (ap Int same ∙ is, subst (λ w. IsRisingFrom w more) (sym same) rising)
leads (Some last) z row more is above rising =
    let same : rowid_int row ≡ z = ap int_in (sym is) in
    (ap Int same ∙ is, subst (λ w. last <ℤ w) (sym same) above, subst (λ w. IsRisingFrom w more) (sym same) rising)

pub so_far_more : {X : Type 0} (gives : Row → X → Type 0) (rows : List Row) (xs ys : List X) (last : Option ℤ) (row : Row) (x : X) (z : ℤ) → Int z ≡ rowid row → IsAbove last z → gives row x → ys ≡ xs ++ x ∷ []
    → StandSoFar gives rows xs last → StandSoFar gives (rows ++ row ∷ []) ys (Some z)
so_far_more gives rows xs ys last row x z is above one pushed h = record {
  rising = λ more rises. subst AreRising (sym (append_assoc rows (row ∷ []) more)) (h.rising (row ∷ more) (leads last z row more is above rises));
  values = zip_pushed gives rows xs ys row x h.values one pushed;
}

-- ---- states

pub kept_at : (old new : State) → (IsTrue old.is_open → old.now ≡ old.committed) → IsUnchanged old new ⊎ IsRolledBack old new → IsKept old new
kept_at old new settled (inl same) = record { was_open = λ _. same.0.was_open; now_is = λ _. same.0.now_is; committed_is = λ _. same.0.committed_is }
kept_at old new settled (inr undone) = record {
  was_open = undone.was_open;
  now_is = λ live. (undone.undone live).0 ∙ sym (settled (undone.was_open live));
  committed_is = λ live. (undone.undone live).1;
}

pub had_failed : {S : Type 0} (g : Ghosts S) (sql : List ℕ) (params : Row) (old mid new : Held S) (e : Error) → (state g old).faults ≤ (state g mid).faults → FailsToQuery sql params (state g mid) (state g new) e
    → HadCause g (state g old) (state g new) e
had_failed g sql params old mid new e up fails =
    let failed : Result ⊥ Error = Err e in
    had_since g (state g old) (state g mid) (state g new) up e (queried_had g mid new new sql params failed (inl fails) (omega arith))

-- ---- the end of the result

after_none : (last : Option ℤ) → AreRisingAfter last []
after_none None = tt
after_none (Some z) = tt

pub typed_end : {X : Type 0} (gives : Row → X → Type 0) (first old new : State) (sql : List ℕ) (rows : List Row) (xs : List X) (last : Option ℤ) → IsUnchanged first old → Shown sql [] old new rows → StandSoFar gives rows xs last
    → (tree : ℕ) (columns : List Term) → Asks first.now.schema sql tree (with_rowid columns) → AreTyped gives (with_rowid columns) (first.now.trees tree) xs true
typed_end gives first old new sql rows xs last same shown h tree columns asks =
    let rising : AreRising rows = subst AreRising (append-nil rows) (h.rising [] (after_none last)) in
    let all = rising_shown sql old new rows shown tree columns (subst (λ (d : Database). Asks d.schema sql tree (with_rowid columns)) (sym same.0.now_is) asks) rising in
    record { rows = rows; shown = subst (λ (d : Database). AreShown (with_rowid columns) (d.trees tree) rows true) same.0.now_is all; values = h.values }
