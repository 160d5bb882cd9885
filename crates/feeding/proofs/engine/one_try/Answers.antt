use Rattle.std.proofs.Common.{◌∙◌, ◌∷◌, ◌++◌, [], ap, option_map}
use Rattle.feeding.specs.Tries.{try_of}
use Rattle.feeding.proofs.engine.one_try.Goals as goal

pub returns-clause-logged : goal.returns-clause-logged
returns-clause-logged g c =
    c.in_ok-came.ensures ∙ ap (λ m. option_map (λ l. l ++ try_of m c.in_ok-came.came ∷ []) (g.X.Exchange.log c.args.exchange.now)) (c.as_slice.ensures ∙ c.in_ok-message.ensures.text)
