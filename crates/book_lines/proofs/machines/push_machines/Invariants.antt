use Rattle.std.proofs.Common.{◌≡◌, ◌++◌, take}
use Rattle.book_lines.specs.Lines.{lines_by}
use Rattle.book_lines.specs.Machines.{machine_line}
use Rattle.book_lines.proofs.machines.push_machines.Given as goal

abbrev pub invariant-loop-place : goal.invariant-loop-place
invariant-loop-place l = l.text.items ≡ l.fn.text.items ++ lines_by l.form (machine_line l.rows.tables.now) (take l.place l.rows.clients.names.items)
