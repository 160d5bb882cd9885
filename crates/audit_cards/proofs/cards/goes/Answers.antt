use Rattle.std.specs.Prelude.{if◌then◌else◌}
use Rattle.std.proofs.Common.{◌≡◌, ◌∙◌, Bool, true, false, ap}
use Rattle.store_data.specs.contracts.status.Class.{the_type}
use Rattle.store_data.specs.declared.status.Class.{Class}
use Rattle.store_data.specs.declared.status.Class.TheVariants.{Go, Stop}
use Rattle.store_data.specs.Sequence.{goes_on}
use Rattle.audit_cards.proofs.cards.goes.Goals as goal
use denote.Enum.Bare.{sameb}

goes : (goes : Bool) (k : Class) → k ≡ (if goes then Go else Stop) → sameb the_type k Go ≡ goes
goes true k e = ap (λ c. sameb the_type c Go) e
goes false k e = ap (λ c. sameb the_type c Go) e

pub returns : goal.returns
returns c = λ plan k is at there max. c.eq.ensures ∙ goes _ _ c.class.ensures ∙ ap (goes_on c.args.sw) (c.is_tolerant.ensures plan k is at there max)
