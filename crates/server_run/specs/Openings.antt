-- Defines the event lines at the start and the end of a server (this project's profile).
use Rattle.std.specs.Prelude.{◌≡◌, ℕ, List, [], ◌∷◌, ◌++◌, length, codes, if◌then◌else◌, Option, Some, None, IfErr, IfSome, OnOk, Result, Ok, Err}
use Rattle.job_facts.specs.declared.store.StoreFault.{StoreFault}
use Rattle.job_facts.specs.Contents.{Contents}
use Rattle.job_facts.specs.Store.{IsHonest, State}
use Rattle.event_lines.specs.Lines.{number_pair, pair, quoted_pair}
use Rattle.event_lines.specs.Notes.{NotesAll}
use Rattle.event_lines.specs.declared.level.Level.{Level}
use Rattle.event_lines.specs.declared.level.Level.TheVariants.{Off, Usual, All}
use Rattle.server_run.specs.ConnectionLines.{fault_word}
use Rattle.server_run.specs.declared.opening.Holdings.{Holdings}
use Rattle.server_run.specs.declared.opening.Opened.{Opened}

-- `h` has the size of the store's contents, as far as it could be read
pub record AreHoldings (old new : State) (h : Holdings) : Type 0 where
  pub batches : IsHonest new → (c : Contents) → old.holds c → IfSome h.batches (λ n. n ≡ length c.facts.batches)
  pub sessions : IsHonest new → (c : Contents) → old.holds c → IfSome h.sessions (λ n. n ≡ length c.facts.sessions)
  pub replies : IsHonest new → (c : Contents) → old.holds c → IfSome h.replies (λ n. n ≡ length c.kept)

-- a number, if it could be read
abbrev pub count_pair : List ℕ → Option ℕ → List ℕ
count_pair key None = []
count_pair key (Some n) = number_pair key n

-- the line of a new database file, or of an existing one with the size of its contents
abbrev pub opening_line : Opened → Holdings → List ℕ
opening_line o h =
    if o.is_new then codes "made" ++ quoted_pair (codes "db") o.path.now
    else (codes "opened" ++ quoted_pair (codes "db") o.path.now ++ pair (codes "log") (if o.has_log then codes "taken" else codes "none")
    ++ count_pair (codes "batches") h.batches ++ count_pair (codes "sessions") h.sessions ++ count_pair (codes "replies") h.replies)

-- the line of a database file that was upgraded from the schema version `version`
abbrev pub upgrade_line : List ℕ → ℕ → List ℕ
upgrade_line path version = codes "upgraded" ++ quoted_pair (codes "db") path ++ number_pair (codes "version") version

abbrev pub upgrade_lines : List ℕ → Option ℕ → List (List ℕ)
upgrade_lines path None = []
upgrade_lines path (Some version) = upgrade_line path version ∷ []

abbrev pub opening_lines : Level → Opened → Holdings → List (List ℕ)
opening_lines Off o h = []
opening_lines Usual o h = upgrade_lines o.path.now o.older ++ opening_line o h ∷ []
opening_lines All o h = upgrade_lines o.path.now o.older ++ opening_line o h ∷ []

-- the line after `count` connections and the close of the store
abbrev pub closing_line : ℕ → Result (Unit {0}) StoreFault → List ℕ
closing_line count (Ok u) = codes "closed" ++ number_pair (codes "connections") count
closing_line count (Err fault) = codes "unclosed" ++ pair (codes "fault") (fault_word fault)

abbrev pub closing_lines : Level → ℕ → Result (Unit {0}) StoreFault → List (List ℕ)
closing_lines Off count closing = []
closing_lines Usual count closing = closing_line count closing ∷ []
closing_lines All count closing = closing_line count closing ∷ []

-- the store was closed with this result, for a reason if it is a fault, and the lines of the close
-- were written
pub record NotesClose (closed : Type 0) (Unclosed : StoreFault → Type 0) (count : ℕ) (level : Level) (before after : Option (List ℕ)) (closing : Result (Unit {0}) StoreFault) : Type 0 where
  pub is_closed : OnOk closing closed
  pub why : IfErr closing Unclosed
  pub noted : NotesAll level before after (closing_lines level count closing)
