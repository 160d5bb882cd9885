use Rattle.std.proofs.Common.{◌≡◌, ◌++◌, ℕ, List, drop}
use Rattle.feeding.specs.Events.{IsNoted}
use Rattle.feeding.proofs.Noting.{exhausted_of}
use Rattle.feeding.proofs.events.note_without_numbers.Given as goal

abbrev pub invariant-loop-line : goal.invariant-loop-line
invariant-loop-line g l =
    (done : List (List ℕ)) × IsNoted g.E.Write.contents l.fn.events l.events done × (exhausted_of l.lines ≡ done ++ exhausted_of (drop l.line-index l.lines))
