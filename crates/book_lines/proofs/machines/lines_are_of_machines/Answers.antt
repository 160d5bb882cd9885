use Rattle.book_lines.proofs.BootLemmas.{machine_is}
use Rattle.book_lines.proofs.machines.lines_are_of_machines.Goals as goal

pub returns : goal.returns
returns c = λ t contents client sound same. machine_is t contents sound same client
