-- A failed write of the lists, after a step of the device.
use Rattle.std.proofs.Common.{◌≡◌, ◌∙◌, Option, Some, Result, Ok, Err, true, sym, ap}
use Rattle.std.specs.Result.{IsErrAnd}
use Rattle.job_facts.specs.declared.failed.Failed.{Failed}
use Rattle.job_facts.specs.declared.store.StoreFault.{StoreFault}
use Rattle.job_facts.specs.Contents.{Contents}
use Rattle.job_facts.specs.Store.{AddsNoneIfUndone, IsHonest}
use Rattle.faulty_store.specs.declared.device.Device.{Device}
use Rattle.faulty_store.specs.Faulty.{state_of}

-- If the step loses no data, an undone failure leaves the contents from before the step.
pub lists_undone : (old mid new : Contents) (before after : Device) (failed : Failed StoreFault) (r : Result (Unit {0}) (Failed StoreFault)) → IsErrAnd r (λ f. f ≡ failed)
    → (failed.undone ≡ true → (d : Option Contents) → d ≡ Some new → d ≡ Some mid) → (IsHonest (state_of mid after) → mid ≡ old) → AddsNoneIfUndone (state_of old before) (state_of new after) r
lists_undone old mid new before after failed (Ok x) is lists same = tt
lists_undone old mid new before after failed (Err f) is lists same = λ undone honest d left. lists (ap (λ (g : Failed StoreFault). g.undone) (sym is) ∙ undone) d left ∙ ap Some (same honest)
