use Rattle.std.proofs.Common.{◌≡◌, ◌++◌, ℕ, map, take}
use Rattle.table_rows.specs.Tables.{StoredSession}
use Rattle.book_lines.specs.Cards.{card_of}
use Rattle.book_lines.proofs.cards.add_sessions.Given as goal

abbrev pub invariant-loop-session : goal.invariant-loop-session
invariant-loop-session l = l.cards.items ≡ l.fn.cards.items ++ map (λ (k : ℕ × StoredSession). card_of l.tables l.rec k.1) (take l.session-index l.sessions)
