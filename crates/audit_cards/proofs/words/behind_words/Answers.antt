use Rattle.std.proofs.Common.{◌∙◌, ◌++◌, List, ap, arith, drop, length, sym, take}
use Rattle.std.proofs.lemmas.Bool.{false≢true}
use Rattle.std.proofs.lemmas.List.{length-append, take-append-drop, take_at}
use Rattle.table_rows.specs.Tables.{StoredWord}
use Rattle.audit_laws.specs.Audited.{placed_words}
use Rattle.audit_cards.specs.Cards.{words_placed}
use Rattle.audit_cards.proofs.RowLemmas.{placed_is, words_count}
use Rattle.audit_cards.proofs.words.behind_words.Goals as goal

pub returns-then-words-own-clause-none : goal.returns-then-words-own-clause-none
returns-then-words-own-clause-none c = λ none rest is.
    let own = c.words_of-own.result.now in
    let placed = placed_is c.args.tables.now c.args.session.now own c.words_of-own.ensures in
    absurd (omega (arith, c.if-words-own.true, ap length is, ap length placed, length-append (placed_words c.args.tables.now c.args.session.now) rest, words_count c.args.session.now.id own))

pub returns-then-are_placed-clause-some : goal.returns-then-are_placed-clause-some
returns-then-are_placed-clause-some c =
    let own = c.words_of-own.result.now in
    let placed = placed_is c.args.tables.now c.args.session.now own c.words_of-own.ensures in
    let words = c.args.words.now in
    sym (take-append-drop (length own) words)
    ∙ ap (λ (ws : List StoredWord). ws ++ drop (length own) words) (sym c.split_at.ensures.front ∙ c.are_placed.ensures.0 c.if-are_placed.true ∙ sym placed)
    ∙ ap (λ (ws : List StoredWord). placed_words c.args.tables.now c.args.session.now ++ ws) (sym c.split_at.ensures.back)

pub returns-else-are_placed-clause-none : goal.returns-else-are_placed-clause-none
returns-else-are_placed-clause-none c = λ none rest is.
    let own = c.words_of-own.result.now in
    let placed = placed_is c.args.tables.now c.args.session.now own c.words_of-own.ensures in
    false≢true (sym c.if-are_placed.false ∙ c.are_placed.ensures.1
    (c.split_at.ensures.front ∙ ap (take (length own)) (is ∙ ap (λ (ws : List StoredWord). ws ++ rest) placed) ∙ take_at (words_placed c.args.session.now.id own) rest (length own) (words_count c.args.session.now.id own)))
