use Rattle.persod.proofs.exit_of_run.Goals as goal

pub returns : goal.returns
returns g c = (c.end_of_run-end.result, c.end_of_run-end.ensures, c.exit_with.ensures)
