-- Defines the observation of a served connection (this project's profile).
use Rattle.std.specs.Prelude.{◌≡◌, nat_lt, Bool, IsTrue, if◌then◌else◌}
use Rattle.job_facts.specs.declared.store.StoreFault.{StoreFault}
use Rattle.job_facts.specs.declared.store.StoreFault.TheVariants as fault
use Rattle.job_facts.specs.declared.server_store.FaultCounts.{FaultCounts}
use Rattle.server.specs.Exchanges.{Exchange, IsMeaningOf}
use Rattle.server_run.specs.Bytes.{IsBeginning, IsReplyOf}
use Rattle.server_run.specs.declared.observation.Observation.{Observation}

-- the fault of the store, from its fault counters before and after
abbrev pub fault_between : FaultCounts → FaultCounts → StoreFault
fault_between before after = if nat_lt before.full after.full then fault.Full else (if nat_lt before.failed after.failed then fault.Device else fault.Memory)

-- `o` is the observation of the exchange `e`; its bytes are described only if the input and the
-- written bytes are known
pub record IsObservationOf (brought written : Bool) (e : Exchange) (o : Observation) : Type 0 where
  pub served : o.served ≡ e.served
  pub meant : IsMeaningOf o.meaning e.meant
  pub request : IsTrue brought → IsBeginning o.request e.input
  pub reply : IsTrue written → IsReplyOf e.served.end o.reply e.written
