-- Statements that run one after the other in an open transaction. `R` is the effect of the
-- statement of an item on the database.
use Rattle.std.specs.Prelude.{◌≡◌, ◌≢◌, List, [], ◌∷◌, IsTrue, OnOk, Result}
use Rattle.sqlite.specs.Effect.{Database}
use Rattle.sqlite.specs.State.{KeepsCommit, State}
use Rattle.sqlite.specs.declared.error.Error.{Error}

module _ {X : Type 0} (R : X → Database → Database → Type 0) where
  abbrev pub Each : List X → Database → Database → Type 0
  Each [] old new = new ≡ old
  Each (x ∷ more) old new = (mid : Database) × R x old mid × Each more mid new

  -- The statements of `items` ran, nothing is committed, and an open transaction stays open.
  pub record WentOn (items : List X) (old new : State) : Type 0 where
    pub made : Each items old.now new.now
    pub committed : new.committed ≡ old.committed
    pub was_open : IsTrue new.is_open → IsTrue old.is_open
    pub goes_on : IsTrue old.in_transaction → IsTrue new.in_transaction
    pub inside : items ≢ [] → IsTrue new.in_transaction × IsTrue old.is_open

  -- If every call succeeds, the statements of `items` ran. Nothing is committed in either case.
  pub record WroteEach {Y : Type 0} (items : List X) (old new : State) (result : Result Y Error) : Type 0 where
    pub well : OnOk result (WentOn items old new)
    pub kept : KeepsCommit old new
