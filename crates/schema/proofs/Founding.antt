-- Lemmas: from newly created tables to a store without contents.
use Rattle.std.proofs.Common.{◌≡◌, ◌⊎◌, Option, inl, inr, refl, sym, subst, IsTrue}
use Rattle.sqlite.specs.Effect.{Database}
use Rattle.sqlite.specs.State.{State, Survives}
use Rattle.job_facts.specs.Contents.{AreSound, Contents, no_contents}
use Rattle.job_facts.specs.Store.{IsFound}
use Rattle.job_facts.proofs.NextContents.{nothing_sound}
use Rattle.table_rows.specs.Tables.{no_rows}
use Rattle.image_laws.specs.Image.{image, stored_batches, stored_blanks, stored_groupings, stored_lots, stored_records, stored_remakes, stored_sessions, stored_words}
use Rattle.sql_base.specs.Columns.{no_schema}
use Rattle.sql_base.specs.Ends.{Ends, IsLeft}
use Rattle.sql_rows.specs.Image.{IsImage}
use Rattle.sql_rows.proofs.Newly.{newly_filled}
use Rattle.sql_tables.specs.Opening.{MakesAll}
use Rattle.schema.specs.Begun.{LeavesNoOther}
use Rattle.schema.specs.Link.{link}
use Rattle.schema.proofs.Link.{RowsLaw, found}

nothing_is : image no_contents ≡ no_rows
unfolding stored_batches stored_blanks stored_groupings stored_lots stored_records stored_remakes stored_sessions stored_words
nothing_is = refl

pub founded : (a b : Database) → a.schema ≡ no_schema → MakesAll a b → IsImage (image no_contents) b
founded a b none makes = subst (λ t. IsImage t b) (sym nothing_is) (newly_filled b (makes none))

pub holds_nothing : (old new : State) → (old.now.schema ≡ no_schema) × Ends MakesAll old new → AreSound no_contents × (IsTrue new.is_open → IsImage (image no_contents) new.now)
holds_nothing old new it = (nothing_sound, λ live. founded old.now new.now it.0 it.1.made)

-- the contents that an open may find
module _ (law : RowsLaw) (old new : State) (d : Option Contents) (left : (link new 0 0).may_leave d) where
  left_nothing : (db : Database) → old.now.schema ≡ no_schema → MakesAll old.now db → left.0 ≡ db.trees → IsFound d no_contents
  left_nothing db none founds is = found law no_contents nothing_sound db (founded old.now db none founds) left.0 is d left.2

  pub only_nothing : (old.now.schema ≡ no_schema) × Ends MakesAll old new → IsFound d no_contents
  only_nothing it = left_nothing new.now it.0 it.1.made (it.1.only left.0 left.1)

  pub before_or_nothing : old.may_leave left.0 ⊎ ((old.now.schema ≡ no_schema) × IsLeft MakesAll old left.0) → (link old 0 0).may_leave d ⊎ IsFound d no_contents
  before_or_nothing (inl before) = inl (left.0, before, left.2)
  before_or_nothing (inr it) = inr (left_nothing it.1.1.0 it.0 it.1.1.1 it.1.1.2)

-- the trees that a crash may leave while tables are created in an empty database
pub left_made : (old new : State) → old.now.schema ≡ no_schema → Survives old new (IsLeft MakesAll old) → LeavesNoOther old new
left_made old new none survives clean trees may =
    elim (survives.crash clean trees may) [
      | inl before ↦ inl before
      | inr it ↦ inr (none, it)
    ]
