use Rattle.std.proofs.Common.{◌∙◌, sym}
use Rattle.step_laws.proofs.CursorLemmas.{not_end, end_of_view}
use Rattle.list_store.proofs.cursors.ends_at.Goals as goal

pub returns-in-None : goal.returns-in-None
returns-in-None c = not_end c.args.plan.now c.cursor_at.ensures.plan c.args.count (sym c.cursor_at.ensures.value ∙ c.in-None.is)

pub returns-in-Some : goal.returns-in-Some
returns-in-Some c =
    end_of_view c.args.plan.now c.cursor_at.ensures.plan c.args.count c.in-Some.cursor (sym c.cursor_at.ensures.value ∙ c.in-Some.is) c.segment.result c.is_none.result c.segment.ensures c.is_none.ensures
