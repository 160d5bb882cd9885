use Rattle.std.proofs.Common.{◌≡◌, ◌++◌, take}
use Rattle.std.specs.Prelude.{flat_map}
use Rattle.book_sheet.specs.Sheet.{card_html}
use Rattle.book_sheet.proofs.sheet.push_card_rows.Given as goal

abbrev pub invariant-loop-card : goal.invariant-loop-card
invariant-loop-card l = l.page.items ≡ l.fn.page.items ++ flat_map card_html (take l.card-index l.cards)
