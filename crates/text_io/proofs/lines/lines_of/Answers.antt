use Rattle.std.proofs.Common.{rules, tests, ◌≡◌, ◌==◌, sym, ◌∙◌, false, length}
use Rattle.std.proofs.lemmas.Iterator.Splits.{YieldsList-from_slice_split}
use Rattle.std.proofs.lemmas.Iterator.Consumers.{map_from_collect}
use Rattle.text_io.specs.Lines.{without_end}
use Rattle.text_io.proofs.lines.lines_of.Goals as goal

pub returns : goal.returns
returns c =
    let filled : (length c.args.text.now == 0) ≡ false = sym c.is_empty.ensures ∙ c.if-is_empty.false in
    rw filled (map_from_collect _ c.collect.ensures.ran
    (YieldsList-from_slice_split _ (λ b. b == 10) (without_end c.args.text.now) (c.split.ensures.rest ∙ c.without_end.ensures) c.split.ensures.done c.split.ensures.closure (λ x b q k. search (rules, tests))))
