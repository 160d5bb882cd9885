use Rattle.std.proofs.Common.{◌≡◌, ◌++◌, take}
use Rattle.std.specs.Prelude.{flat_map}
use Rattle.book_sheet.specs.Sheet.{charge_html}
use Rattle.book_sheet.proofs.sheet.push_blank_rows.Given as goal

abbrev pub invariant-loop-charge : goal.invariant-loop-charge
invariant-loop-charge l = l.page.items ≡ l.fn.page.items ++ flat_map (charge_html l.tables) (take l.charge-index l.charges)
