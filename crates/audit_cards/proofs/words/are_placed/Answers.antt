use Rattle.std.proofs.Common.{◌∙◌, ap, arith, length, refl, sym}
use Rattle.std.proofs.lemmas.Bool.{false≢true}
use Rattle.table_rows.specs.Tables.{StoredWord}
use Rattle.audit_cards.specs.Cards.{word_at, words_placed}
use Rattle.audit_cards.proofs.RowLemmas.{word_here, words_count}
use Rattle.audit_order.proofs.SameLists.{all_equal, here_equal, same_here, same_more}
use Rattle.audit_order.proofs.Tested.{granted, refused}
use Rattle.audit_cards.proofs.words.are_placed.Goals as goal

pub returns-then-words-own : goal.returns-then-words-own
returns-then-words-own c = refused (λ same. c.if-words-own.true (ap length same ∙ words_count c.args.session.now.id c.args.own.now))

pub returns-then-not-is_word : goal.returns-then-not-is_word
returns-then-not-is_word c =
    let id = c.args.session.now.id in
    let own = c.args.own.now in
    let k = c.loop-place.place in
    let given : StoredWord = word_at id k c.index-own-place.result in
    refused (λ same. false≢true (sym c.if-not-is_word.true ∙ c.is_word.ensures.1
    (here_equal c.args.words.now (words_placed id own) k c.index-words-place.result given (omega arith) (omega (arith, words_count id own)) c.index-words-place.is
    (word_here id own k c.index-own-place.result (omega arith) c.index-own-place.is given refl) same)))

pub loop-place-preserved : goal.loop-place-preserved
loop-place-preserved c =
    let id = c.args.session.now.id in
    let own = c.args.own.now in
    let k = c.loop-place.place in
    let given : StoredWord = word_at id k c.index-own-place.result in
    same_more (λ w. w) c.args.words.now (words_placed id own) k c.loop-place.invariant
    (same_here (λ w. w) c.args.words.now (words_placed id own) k c.index-words-place.result given (omega arith) (omega (arith, words_count id own)) c.index-words-place.is
    (word_here id own k c.index-own-place.result (omega arith) c.index-own-place.is given refl) (c.is_word.ensures.0 c.if-not-is_word.false))

pub returns : goal.returns
returns c =
    granted (all_equal c.args.words.now (words_placed c.args.session.now.id c.args.own.now) (c.if-words-own.false ∙ sym (words_count c.args.session.now.id c.args.own.now))
    (λ k within. c.loop-place.invariant k (omega arith)))
