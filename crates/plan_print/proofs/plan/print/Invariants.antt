use Rattle.std.proofs.Common.{take}
use Rattle.std.specs.Io.KnownBytes.{Appends}
use Rattle.std.specs.List.{flat_map}
use Rattle.plan_print.specs.Printed.{text_of}
use Rattle.plan_print.proofs.plan.print.Given as goal

abbrev pub invariant-loop-record : goal.invariant-loop-record
invariant-loop-record g l = Appends (g.W.Write.contents l.fn.writer) (g.W.Write.contents l.writer) (flat_map text_of (take l.record-index l.plans))
