use Rattle.std.proofs.Common.{◌≡◌, ◌++◌, take}
use Rattle.std.specs.Prelude.{string_bytes}
use Rattle.std.specs.List.{flat_map}
use Rattle.reports.specs.Report.{head_text, record_text}
use Rattle.reports.proofs.report.report_text.Given as goal

abbrev pub invariant-loop-line : goal.invariant-loop-line
invariant-loop-line l = string_bytes l.text ≡ head_text l.batch l.row ++ flat_map record_text (take l.line-index l.lines)
