use Rattle.std.proofs.Common.{ap, sym, ◌∙◌}
use Rattle.drill.specs.Scripts.{shown}
use Rattle.drill.proofs.ScriptLemmas.{import_asked, import_unasked}
use Rattle.drill.proofs.script.asked.Goals as goal

pub returns-in_default-clause-value : goal.returns-in_default-clause-value
returns-in_default-clause-value c =
    let i = c.in-Import in
    import_unasked (shown c.args.step) i.number.now i.batch.now i.product.now c.args.behind.now (ap shown i.is) (sym c.dot_in.ensures ∙ c.in_default.is)

pub returns-in_ok-post-in-Import-clause-value : goal.returns-in_ok-post-in-Import-clause-value
returns-in_ok-post-in-Import-clause-value c =
    let i = c.in-Import in
    import_asked (shown c.args.step) i.number.now i.batch.now i.product.now c.in_ok-post-in-Import.field-0.items c.args.behind.now c.in-Some.end (ap shown i.is) (sym c.dot_in.ensures ∙ c.in-Some.is)
    (simp (c.in_ok-post-in-Import.ensures, c.as_slice.ensures.value, c.as_slice-in-Import.ensures.value, c.in_ok-target-in-Import.ensures, c.in_ok-file-in-Import.ensures))
