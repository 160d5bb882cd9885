-- Lemmas about opening a database from the trees that a crash left.
use Rattle.std.proofs.Common.{◌≡◌, ◌≢◌, ◌∙◌, ◌⊎◌, Option, None, Some, IsTrue, inl, inr, refl, sym, ap, subst}
use Rattle.sqlite.specs.Effect.{Database}
use Rattle.sqlite.specs.Held.{Held, state}
use Rattle.sqlite.specs.Schema.{Schema}
use Rattle.sqlite.specs.State.{HasCleanDisk, IsLive, State, Survives}
use Rattle.sqlite.specs.Store.{Ghosts}
use Rattle.sqlite.specs.Tree.{Trees}
use Rattle.job_facts.specs.Contents.{AreSame, AreSound, Contents, no_contents}
use Rattle.job_facts.specs.Reopening.{LeavesOnly, OpensWith}
use Rattle.job_facts.specs.Store.{IsFound}
use Rattle.job_facts.proofs.NextContents.{AreSame-refl, nothing_sound}
use Rattle.table_rows.specs.Tables.{Tables}
use Rattle.image_laws.specs.Image.{image}
use Rattle.sql_base.specs.Columns.{no_schema}
use Rattle.sql_base.specs.Ends.{IsLeft}
use Rattle.sql_tables.specs.Finds.{Finds}
use Rattle.sql_tables.specs.Versions.{numbered_version_at}
use Rattle.sql_tables.specs.declared.versions.Version.{Version}
use Rattle.table_reads.specs.Holding.{HoldsRows, HoldsSoundRows, IsOfVersion, number_of}
use Rattle.examination.specs.declared.damage.Damage.{Damage}
use Rattle.examination.specs.declared.difference.Difference.{Difference}
use Rattle.adoption.specs.Adopts.{Adopts}
use Rattle.adoption.specs.EndsCommitted.{EndsCommitted}
use Rattle.adoption.specs.declared.faults.OpenFault.{OpenFault}
use Rattle.adoption.specs.declared.faults.OpenFault.TheVariants as fault
use Rattle.schema.specs.Begun.{WasHeld}
use Rattle.schema.specs.Left.{IsRefusal, TakesAt}
use Rattle.schema.specs.Link.{FindsAtOpen, Has, link}
use Rattle.schema.proofs.Adopting.{OneLaw, OrderLaw, holds_them, leaves_them, left_late}
use Rattle.schema.proofs.Link.{RowsLaw, Shows, has_there, shown_at}

-- ---- a database has only one contents

-- an empty database has no table
not_empty : (v : Version) (t : Tables) (db : Database) → HoldsRows v t db → db.schema ≢ no_schema
not_empty v t db held none =
    let it = held.version in
    let table = numbered_version_at (number_of v) it.number in
    let found : Finds no_schema table = subst (λ (s : Schema). Finds s table) none it.finds in
    let named = found.named in
    cc

module _ (law : RowsLaw) (one : OneLaw) (v : Version) (c : Contents) (sound : AreSound c) (db : Database) (held : HoldsRows v (image c) db) where
  has_one : (d : Contents) → AreSound d → Has db d → AreSame d c
  has_one d fine (inl there) = law d c fine sound (one there.0 v (image d) (image c) db there.1 held)
  has_one d fine (inr none) = absurd (not_empty v (image c) db held none.0)

  -- an open finds these contents
  shows_one : (d : Option Contents) → Shows d db → IsFound d c
  shows_one None none = absurd (none c sound (inl (v, held)))
  shows_one (Some d) shown = has_one d shown.0 shown.1

  was_one : (d : Option Contents) (trees : Trees) → FindsAtOpen d trees → WasHeld d db → IsFound d c
  was_one None trees at was = absurd was
  was_one (Some d) trees at was = has_one d at.0 (inl was)

module _ (db : Database) (empty : db.schema ≡ no_schema) where
  has_nothing : (d : Contents) → Has db d → AreSame d no_contents
  has_nothing d (inl there) = absurd (not_empty there.0 (image d) db there.1 empty)
  has_nothing d (inr none) = subst (λ x. AreSame x no_contents) (sym none.1) (AreSame-refl no_contents)

  shows_nothing : (d : Option Contents) → Shows d db → IsFound d no_contents
  shows_nothing None none = absurd (none no_contents nothing_sound (inr (empty, refl)))
  shows_nothing (Some d) shown = has_nothing d shown.1

-- ---- databases that are opened, and databases that are refused

pub adopted_at : RowsLaw → OneLaw → (old new : State) → IsLive old → EndsCommitted Adopts old new → TakesAt old.now.trees (link new 0 0)
adopted_at rows one old new live comes =
    let made = comes.made in (
      made.contents,
      (made.sound, record { db = old.now; is_database = (live comes.was_open).0; stands = refl; has = inl (made.version, made.held) }),
      record {
        holds = holds_them one old new comes made.version made.contents made.sound made.held;
        crash = λ d. leaves_them rows one old new comes made.version made.contents d made.sound made.held;
      },
    )

pub created_at : (old new : State) → IsLive old → IsTrue old.is_open → old.now.schema ≡ no_schema → OpensWith (link new 0 0) no_contents → TakesAt old.now.trees (link new 0 0)
created_at old new live is_open empty opens =
    (no_contents, (nothing_sound, record { db = old.now; is_database = (live is_open).0; stands = refl; has = inr (empty, refl) }), opens)

-- a database that is refused, and isn't empty, has no sound contents
pub none_at : (old : State) (e : OpenFault) → IsLive old → IsTrue old.is_open → e ≢ fault.NotEmpty → ((d : Difference) → e ≡ fault.NotOurs d → (v : Version) → ¬ IsOfVersion v old.now)
    → ((d : Damage) → e ≡ fault.Damaged d → (v : Version) → ¬ HoldsSoundRows v old.now) → IsRefusal e → old.now.schema ≢ no_schema → FindsAtOpen None old.now.trees
none_at old fault.NotEmpty live is_open existing not_ours damaged is some = absurd (existing refl)
none_at old (fault.NotOurs d) live is_open existing not_ours damaged is some =
    λ c sound at. elim (has_there old.now old.now.trees c (live is_open).0 refl at) [ inl h ↦ not_ours d refl h.0 (h.1.just, h.1.version) | inr e ↦ some e.0 ]
none_at old (fault.Damaged d) live is_open existing not_ours damaged is some =
    λ c sound at. elim (has_there old.now old.now.trees c (live is_open).0 refl at) [ inl h ↦ damaged d refl h.0 (c, sound, h.1) | inr e ↦ some e.0 ]
none_at old (fault.Store why) live is_open existing not_ours damaged is some = absurd is

-- ---- after a call that fails

module _ {S : Type 0} (g : Ghosts S) (law : (s : S) (db : Trees) → IsTrue (g.view s).is_open → g.recovers s db → db ≡ (g.view s).committed) (old : Held S)
    (is_open : IsTrue (state g old).is_open) (settled : IsTrue (state g old).is_open → (state g old).now ≡ (state g old).committed) (live : IsLive (state g old)) where
  -- outside a transaction, a crash leaves the current trees
  left_shown : (trees : Trees) → (state g old).may_leave trees → trees ≡ (state g old).now.trees
  left_shown trees may = law old.store trees is_open may ∙ ap (λ (d : Database). d.trees) (sym (settled is_open))

  shown : (d : Option Contents) → (link (state g old) 0 0).may_leave d → Shows d (state g old).now
  shown d left = shown_at d (state g old).now left.0 (live is_open).0 (left_shown left.0 left.1) left.2

  pub failed_adopt : RowsLaw → OneLaw → OrderLaw → (new : State) → Survives (state g old) new (IsLeft Adopts (state g old)) → HasCleanDisk new
      → (v : Version) (c : Contents) → AreSound c → HoldsRows v (image c) (state g old).now → LeavesOnly (link new 0 0) c
  failed_adopt rows one order new survives clean v c sound held d left =
      elim (left_late order (state g old) new survives clean d left) [
        | inl before ↦ shows_one rows one v c sound (state g old).now held d (shown d before)
        | inr was ↦ was_one rows one v c sound (state g old).now held d left.0 left.2 was
      ]

  pub failed_create : (state g old).now.schema ≡ no_schema → (d : Option Contents) → (link (state g old) 0 0).may_leave d ⊎ IsFound d no_contents → IsFound d no_contents
  failed_create empty d (inl before) = shows_nothing (state g old).now empty d (shown d before)
  failed_create empty d (inr found) = found
