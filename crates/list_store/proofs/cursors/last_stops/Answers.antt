use Rattle.std.specs.Prelude.{if◌then◌else◌}
use Rattle.std.proofs.Common.{◌≡◌, ◌∙◌, ◌≢◌, ◌-◌, ℕ, Bool, true, false, not, length, get_or, refl, sym, ap, arith}
use Rattle.std.proofs.lemmas.Bool.{eqb-false}
use Rattle.std.proofs.lemmas.Option.{slice_get-get_or}
use Rattle.store_data.specs.contracts.status.Class.{the_type}
use Rattle.store_data.specs.declared.status.Class.{Class}
use Rattle.store_data.specs.declared.status.Class.TheVariants.{Go, Stop}
use Rattle.store_data.specs.Sequence.{commands_of, goes_on}
use Rattle.step_laws.proofs.CursorLemmas.{last_stops-last}
use Rattle.list_store.proofs.cursors.last_stops.Goals as goal
use denote.Enum.Bare.{sameb}

stops : (goes : Bool) (k : Class) → k ≡ (if goes then Go else Stop) → sameb the_type k Stop ≡ not goes
stops true k e = ap (λ c. sameb the_type c Stop) e
stops false k e = ap (λ c. sameb the_type c Stop) e

pub returns : goal.returns
returns c =
    let words = c.args.words.now in
    let place : ℕ = length words - 1 in
    let word : ℕ = get_or words place 0 in
    let goes : Bool = goes_on word c.is_tolerant.result in
    let some : length words ≢ 0 = eqb-false (length words) 0 (sym c.is_empty.ensures ∙ c.if-is_empty.false) in
    c.eq.ensures ∙ stops goes c.class.result c.class.ensures
    ∙ last_stops-last (commands_of c.args.plan.now) words place word goes c.is_tolerant.result (omega arith)
    (slice_get-get_or words place 0 (omega arith)) refl c.is_tolerant.ensures
