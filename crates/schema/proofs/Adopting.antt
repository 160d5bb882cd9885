-- Lemmas: from the rows of a database to the contents of a store.
use Rattle.std.proofs.Common.{◌≡◌, ◌⊎◌, Option, None, Some, inl, inr, sym, subst}
use Rattle.sqlite.specs.Effect.{Database}
use Rattle.sqlite.specs.Tree.{Trees}
use Rattle.sqlite.specs.State.{HasCleanDisk, State, Survives}
use Rattle.job_facts.specs.Contents.{AreSound, Contents}
use Rattle.job_facts.specs.Store.{IsFound}
use Rattle.table_rows.specs.Tables.{HaveSameRows, Tables}
use Rattle.image_laws.specs.Image.{image}
use Rattle.sql_base.specs.Ends.{IsLeft}
use Rattle.sql_tables.specs.declared.versions.Version.{Version}
use Rattle.sql_rows.specs.Image.{IsImage}
use Rattle.sql_rows.proofs.SameRows.{same_rows}
use Rattle.table_reads.specs.Holding.{HoldsRows, HoldsSoundRows}
use Rattle.adoption.specs.Adopts.{Adopts}
use Rattle.adoption.specs.EndsCommitted.{EndsCommitted}
use Rattle.schema.specs.Begun.{WasHeld}
use Rattle.schema.specs.Link.{FindsAtOpen, link}
use Rattle.schema.proofs.Link.{RowsLaw, found, has_image, image_had, shown_at}

-- A database has the rows of only one image.
abbrev pub OneLaw : Type 0
OneLaw = (v w : Version) (t u : Tables) (db : Database) → HoldsRows v t db → HoldsRows w u db → HaveSameRows t u

-- A database has these rows in any order.
abbrev pub OrderLaw : Type 0
OrderLaw = (v : Version) (t u : Tables) (db : Database) → HaveSameRows t u → HoldsRows v u db → HoldsRows v t db

-- the opened database has the image of any contents that the database had
image_of : OneLaw → (v : Version) (c : Contents) (old new : Database) → HoldsRows v (image c) old → Adopts old new → IsImage (image c) new
image_of one v c old new held made = same_rows (image c) (image made.contents) new (one v made.version (image c) (image made.contents) old held made.held) made.stands

pub held_before : (old new : State) → EndsCommitted Adopts old new → (v : Version) × HoldsSoundRows v old.now
held_before old new comes = let made = comes.made in (made.version, (made.contents, made.sound, made.held))

pub holds_them : OneLaw → (old new : State) → EndsCommitted Adopts old new → (v : Version) (c : Contents) → AreSound c → HoldsRows v (image c) old.now → (link new 0 0).holds c
holds_them one old new comes v c sound held = (sound, λ live. subst (IsImage (image c)) (sym (comes.shown live)) (image_of one v c old.now comes.db held comes.made))

pub leaves_them : RowsLaw → OneLaw → (old new : State) → EndsCommitted Adopts old new → (v : Version) (c : Contents) (d : Option Contents) → AreSound c → HoldsRows v (image c) old.now → (link new 0 0).may_leave d → IsFound d c
leaves_them law one old new comes v c d sound held left =
    found law c sound comes.db (image_of one v c old.now comes.db held comes.made) left.0 (comes.only left.0 left.1) d left.2

was_held : OrderLaw → (old db : Database) → Adopts old db → (trees : Trees) → trees ≡ db.trees → (d : Option Contents) → FindsAtOpen d trees → WasHeld d old
was_held order old db made trees is None at =
    absurd (shown_at None db trees made.stands.is_database is at made.contents made.sound (image_had made.contents db made.stands))
was_held order old db made trees is (Some d) at =
    let same = has_image (image made.contents) d db made.stands (shown_at (Some d) db trees made.stands.is_database is at).1 in
    (made.version, order made.version (image d) (image made.contents) old same made.held)

pub left_late : OrderLaw → (old new : State) → Survives old new (IsLeft Adopts old) → HasCleanDisk new → (d : Option Contents) → (link new 0 0).may_leave d
    → (link old 0 0).may_leave d ⊎ WasHeld d old.now
left_late order old new survives clean d left =
    elim (survives.crash clean left.0 left.1) [
      | inl before ↦ inl (left.0, before, left.2)
      | inr it ↦ inr (was_held order old.now it.1.0 it.1.1 left.0 it.1.2 d left.2)
    ]
