-- The state of a store of lists with a faulty device, and the time at which a planned fault
-- strikes.
use Rattle.std.specs.Prelude.{◌≡◌, ℕ, zero, suc, Bool, false, true, Option, None, Some, ⊤}
use Rattle.job_facts.specs.Contents.{AreSound, Contents}
use Rattle.job_facts.specs.Store.{State}
use Rattle.list_store.specs.Lists.{contents}
use Rattle.faulty_store.specs.declared.device.Device.{Device}
use Rattle.faulty_store.specs.declared.device.Fault.{Fault}
use Rattle.faulty_store.specs.declared.device.Fault.TheVariants.{Failed, FailedAfterWrite, Full, Lies}
use Rattle.faulty_store.specs.declared.device.Plan.{Plan}
use Rattle.faulty_store.specs.declared.store.FaultyStore.{FaultyStore}

-- The state of a store with the contents `c`. After it is shut, only the soundness of its contents
-- is known. An open after a crash finds `c`, because every write that reached the device is in the
-- lists. It keeps no request log.
abbrev pub state_of : Contents → Device → State
state_of c device = record {
  holds = λ d. AreSound d × (device.is_shut ≡ false → c ≡ d);
  doubts = device.lies;
  failed = device.failed;
  full = device.full;
  may_leave = λ d. d ≡ Some c;
  log = λ l. ⊥;
}

abbrev pub state : FaultyStore → State
state s = state_of (contents s.lists) s.device

-- ---- the step in which a planned fault strikes

-- the fault that strikes in a step that is due. `FailedAfterWrite` waits for the end of a write
abbrev pub in_turn : Fault → Option Fault
in_turn Failed = Some Failed
in_turn FailedAfterWrite = None
in_turn Full = Some Full
in_turn Lies = Some Lies

-- the fault that strikes in the next step, if it is due after `turns` steps
abbrev pub strikes : ℕ → Fault → Option Fault
strikes zero fault = in_turn fault
strikes (suc turns) fault = None

-- the fault that strikes in the next step under this plan
abbrev pub struck : Option Plan → Option Fault
struck None = None
struck (Some plan) = strikes plan.turns plan.fault

-- A call continues after a step in which this fault, or no fault, strikes. A loss of all data
-- doesn't end the call, because the device doesn't report it.
abbrev pub IsAnswered : Option Fault → Type 0
IsAnswered None = ⊤
IsAnswered (Some Failed) = ⊥
IsAnswered (Some FailedAfterWrite) = ⊥
IsAnswered (Some Full) = ⊥
IsAnswered (Some Lies) = ⊤

-- the plan after a step in which the fault is due
abbrev pub waits : Fault → Option Plan
waits Failed = None
waits FailedAfterWrite = Some (record { turns = 0; fault = FailedAfterWrite })
waits Full = None
waits Lies = None

-- the plan after a step, if the fault was due after `turns` steps
abbrev pub left_of : ℕ → Fault → Option Plan
left_of zero fault = waits fault
left_of (suc turns) fault = Some (record { turns = turns; fault = fault })

-- the plan after a step under this plan
abbrev pub left : Option Plan → Option Plan
left None = None
left (Some plan) = left_of plan.turns plan.fault

-- The fault strikes at the end of a write.
abbrev pub awaited : Fault → Bool
awaited Failed = false
awaited FailedAfterWrite = true
awaited Full = false
awaited Lies = false

-- The fault, which is due after `turns` steps, strikes at the end of this write.
abbrev pub ends_of : ℕ → Fault → Bool
ends_of zero fault = awaited fault
ends_of (suc turns) fault = false

-- The planned fault strikes at the end of this write.
abbrev pub ends : Option Plan → Bool
ends None = false
ends (Some plan) = ends_of plan.turns plan.fault
