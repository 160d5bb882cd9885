-- Defines the effect and the response of a message whose head is valid.
use Rattle.std.specs.Prelude.{◌⊎◌, ℕ, List}
use Rattle.job_facts.specs.Contents.{Contents}
use Rattle.job_facts.specs.Store.{State, IsHonest}
use Rattle.server.specs.declared.served.Served.{Served}
use Rattle.http_requests.specs.Meant.{AsksNothing, Meant}
use Rattle.server.specs.Replies.{IsAnswer, IsUnavailable}
use Rattle.server.specs.Exchanges.{Does, IsNext}

pub record MayServe (m : Meant) (old new : State) (served : Served) (written : List ℕ) : Type 0 where
  pub does : Does m old new served.decided
  pub answered : IsHonest new → (c : Contents) → old.holds c → IsAnswer c m served written ⊎ IsUnavailable served written
  pub fixed : AsksNothing m → (c : Contents) → IsAnswer c m served written ⊎ IsUnavailable served written
  pub next : (c : Contents) → old.holds c → IsNext c m served.decided
