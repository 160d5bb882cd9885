use Rattle.std.proofs.Common.{◌≡◌, ℕ, List, Option, subst, sym}
use Rattle.std.specs.Prelude.{IsErrAnd, Result, Ok, Err}
use Rattle.std.proofs.KnownBytes.{Keeps-refl}
use Rattle.server_run.specs.ServerLines.{WritesLine, numbered}
use Rattle.server_run.specs.declared.stopping.ServeStop.{ServeStop}
use Rattle.server_run.specs.declared.stopping.ServeStop.TheVariants.{Memory}
use Rattle.server_run.proofs.stopping.write_number.Goals as goal

-- if an allocation fails, nothing was written
unwritten : (a : Option (List ℕ)) (text : List ℕ) (r : Result (Unit {0}) ServeStop) → IsErrAnd r (λ stop. stop ≡ Memory) → WritesLine a a text r
unwritten a text (Ok u) failed = absurd failed
unwritten a text (Err e) failed = subst (λ (stop : ServeStop). WritesLine a a text (Err stop)) (sym failed) (Keeps-refl a)

pub returns-in_err-text : goal.returns-in_err-text
returns-in_err-text g c =
    unwritten (g.W.Write.contents c.args.writer.now) (numbered c.args.words.now c.args.number) c.from_residual.result c.from_residual.ensures.1
