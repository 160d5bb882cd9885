use Rattle.std.proofs.Common.{◌≡◌, true, take}
use Rattle.std.specs.Prelude.{AllPairs}
use Rattle.audit_rows.proofs.once.are_apart.Given as goal

abbrev pub invariant-loop-place : goal.invariant-loop-place
invariant-loop-place g l = AllPairs (λ x y. g.T.Apart.apart x y ≡ true) (take l.place l.rows)
