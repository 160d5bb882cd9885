use Rattle.audit_laws.specs.Audited.{placed_words}
use Rattle.audit_cards.proofs.Consuming.{Leaves}
use Rattle.audit_cards.proofs.words.are_words_of.Given as goal

abbrev pub invariant-loop-session : goal.invariant-loop-session
invariant-loop-session l = Leaves (placed_words l.tables) l.sessions l.fn.words l.session-index l.rest
