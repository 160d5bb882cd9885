-- The pending request of a feeder can be sent.
use Rattle.std.proofs.Common.{◌≡◌, ◌≤◌, ℕ, subst, arith}
use Rattle.job_facts.specs.declared.request.Call.{Call}
use Rattle.job_facts.specs.declared.request.Call.TheVariants.{Job, Release}
use Rattle.job_facts.specs.declared.request.Request.TheVariants as request
use Rattle.wire.specs.Sending.{IsSendable}
use Rattle.feeder.specs.declared.feeder.Stand.TheVariants.{Asks}
use Rattle.feeder.specs.Table.{FeederState, IsAsked, IsFeeder, IsStand, number_at}
use Rattle.feeder.specs.Views.{CanBeSent}

call_sends : (boot place : ℕ) (call : Call) → 1 ≤ boot → boot ≤ 9999999999 → IsAsked boot place call → IsSendable call
call_sends boot place (Release upto) least most is = (omega (arith, is.1, least), omega (arith, is.1, most))
call_sends boot place (Job request.Reset) least most is = tt
call_sends boot place (Job (request.Open b blank)) least most is = is.1
call_sends boot place (Job (request.Answer s k sw)) least most is = is
call_sends boot place _ least most is = absurd is

pub pending_sends : (f : FeederState) (call : Call) → IsFeeder f → f.stand ≡ Asks call → CanBeSent (number_at f.boot f.place, call)
pending_sends f call is stands = (
  omega (arith, is.boot_least),
  omega (arith, is.boot_most, is.place_most),
  call_sends f.boot f.place call is.boot_least is.boot_most (subst (IsStand f.boot f.place) stands is.stand),
)
