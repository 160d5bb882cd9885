use Rattle.std.proofs.Common.{◌≡◌, ◌++◌, take}
use Rattle.std.specs.Prelude.{flat_map}
use Rattle.book_lines.specs.Cards.{record_cards}
use Rattle.book_lines.proofs.cards.add_records.Given as goal

abbrev pub invariant-loop-rec : goal.invariant-loop-rec
invariant-loop-rec l = l.cards.items ≡ l.fn.cards.items ++ flat_map (record_cards l.tables) (take l.rec-index l.records)
