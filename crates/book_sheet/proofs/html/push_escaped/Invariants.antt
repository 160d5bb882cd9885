use Rattle.std.proofs.Common.{◌≡◌, ◌++◌, take}
use Rattle.std.specs.Prelude.{flat_map}
use Rattle.book_sheet.specs.Html.{escaped_char}
use Rattle.book_sheet.proofs.html.push_escaped.Given as goal

abbrev pub invariant-loop-c : goal.invariant-loop-c
invariant-loop-c l = l.page.items ≡ l.fn.page.items ++ flat_map escaped_char (take l.c-index l.text)
