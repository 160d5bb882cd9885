use Rattle.std.proofs.Common.{Err, ap, inl, inr, ◌∙◌}
use Rattle.std.proofs.KnownBytes.{Keeps-refl}
use Rattle.std.proofs.lemmas.Result.{err_from_is_err_and}
use Rattle.over_tables.proofs.drilling.drill_engine.Goals as goal

pub returns-in_err-begun : goal.returns-in_err-begun
returns-in_err-begun g c =
    let p = err_from_is_err_and c.from_residual.result c.from_residual.ensures.1 in
    let (fault, is) = c.in_err-begun.ensures.refused in
    inl (fault, p.1 ∙ ap Err (p.2 ∙ is), Keeps-refl (g.W.Write.contents c.args.writer.now))

pub returns : goal.returns
returns g c = inr (c.in_ok-begun.field-0, c.in_ok-begun.ensures.empty, c.drill_over.ensures)
