-- Lemmas about the event lines at the start of a server.
use Rattle.std.proofs.Common.{◌≡◌, ◌≢◌, ◌↔◌, ℕ, Bool, true, false, List, [], ◌∷◌, Option, refl, sym, subst, ◌∙◌}
use Rattle.std.specs.Prelude.{IsTrue, None}
use Rattle.std.proofs.KnownBytes.{Keeps-refl}
use Rattle.std.proofs.lemmas.Bool.{false≢true}
use Rattle.job_facts.specs.Store.{State}
use Rattle.event_lines.specs.Notes.{NotesAll}
use Rattle.event_lines.proofs.NotesLemmas.{both-all}
use Rattle.event_lines.specs.declared.level.Level.{Level}
use Rattle.event_lines.specs.declared.level.Level.TheVariants.{Off, Usual, All}
use Rattle.server_run.specs.Openings.{AreHoldings, opening_line, opening_lines, upgrade_lines}
use Rattle.server_run.specs.declared.opening.Holdings.{Holdings}
use Rattle.server_run.specs.declared.opening.Opened.{Opened}

off : (level : Level) (on : Bool) → (IsTrue on ↔ (level ≢ Off)) → on ≡ false → level ≡ Off
off Off on is not_on = refl
off Usual on is not_on = absurd (false≢true (sym not_on ∙ is.1 (λ e. cc)))
off All on is not_on = absurd (false≢true (sym not_on ∙ is.1 (λ e. cc)))

abbrev pub nothing_held : Holdings
nothing_held = record { batches = None; sessions = None; replies = None }

-- if event lines are off, nothing is read and nothing is written
pub off-opens : (level : Level) (on : Bool) (old : State) (opened : Opened) (known : Option (List ℕ)) → (IsTrue on ↔ (level ≢ Off)) → on ≡ false
    → (h : Holdings) × AreHoldings old old h × NotesAll level known known (opening_lines level opened h)
off-opens level on old opened known is not_on = (
  nothing_held,
  record { batches = λ h c held. tt; sessions = λ h c held. tt; replies = λ h c held. tt },
  subst (λ (l : Level). NotesAll l known known (opening_lines l opened nothing_held)) (sym (off level on is not_on)) (Keeps-refl known),
)

-- if event lines are on, the line of an upgrade is followed by the line of the database file
pub on-opens : (level : Level) (on : Bool) (opened : Opened) (h : Holdings) (before mid after : Option (List ℕ)) → (IsTrue on ↔ (level ≢ Off)) → on ≡ true
    → NotesAll level before mid (upgrade_lines opened.path.now opened.older) → NotesAll level mid after (opening_line opened h ∷ [])
    → NotesAll level before after (opening_lines level opened h)
on-opens Off on opened h before mid after is is_on first second = absurd (is.0 is_on refl)
on-opens Usual on opened h before mid after is is_on first second = both-all Usual before mid after (upgrade_lines opened.path.now opened.older) (opening_line opened h ∷ []) first second
on-opens All on opened h before mid after is is_on first second = both-all All before mid after (upgrade_lines opened.path.now opened.older) (opening_line opened h ∷ []) first second
