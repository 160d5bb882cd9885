use Rattle.std.proofs.Common.{◌≡◌, ◌++◌, take}
use Rattle.book_lines.specs.Lines.{lines_by}
use Rattle.book_lines.specs.Counts.{count_line}
use Rattle.book_lines.proofs.counts.push_counts.Given as goal

abbrev pub invariant-loop-count : goal.invariant-loop-count
invariant-loop-count l = l.text.items ≡ l.fn.text.items ++ lines_by l.form (count_line l.kind) (take l.count-index l.counts)
