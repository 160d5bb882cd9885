use Rattle.std.proofs.Common.{sym, subst, ◌∙◌}
use Rattle.std.specs.Str.Parse.{ParsesUnsigned}
use Rattle.text_io.proofs.WordLemmas.{none_unread, read_alike, word_number, word_text}
use Rattle.text_io.proofs.numbers.status_word.Goals as goal

pub returns-in_err-digits : goal.returns-in_err-digits
returns-in_err-digits c =
    let word = sym c.is_word.ensures ∙ c.if-not-is_word.false in
    absurd (none_unread _ _ c.from_utf8.result c.from_utf8.ensures.cases (λ e held. held.0 (word_text c.args.text.now word)) (sym c.ok.ensures.value ∙ c.in_err-digits.was))

pub returns : goal.returns
returns c =
    let word = sym c.is_word.ensures ∙ c.if-not-is_word.false in
    let same = (read_alike _ _ c.from_utf8.result c.in_ok-digits.digits c.from_utf8.ensures.cases (sym c.ok.ensures.value ∙ c.in_ok-digits.was)).0 in
    c.ok-2.ensures.value ∙ word_number c.args.text.now _ word (subst (λ t. ParsesUnsigned 16 16 t c.from_str_radix.result) same c.from_str_radix.ensures.value)
