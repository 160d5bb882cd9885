use Rattle.std.proofs.Common.{◌≡◌, take}
use Rattle.std.specs.List.{flat_map}
use Rattle.text_io.specs.Written.{line}
use Rattle.drill.proofs.script.file_of.Given as goal

abbrev pub invariant-loop-line : goal.invariant-loop-line
invariant-loop-line l = l.file.items ≡ flat_map (λ x. line x.now) (take l.line-index l.lines)
