use Rattle.std.proofs.Common.{sym, ◌∙◌}
use Rattle.job_core.proofs.HandingLemmas.{none_past}
use Rattle.job_core.proofs.decision.commands.command_from.Goals as goal

pub returns-in-None : goal.returns-in-None
returns-in-None c = λ f b r plan k there is at segment.
    sym (none_past f b r plan k c.args.cursor.now (sym segment ∙ c.in-None.is) there is at)
