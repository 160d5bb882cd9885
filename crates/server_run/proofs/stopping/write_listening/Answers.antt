use Rattle.server_run.proofs.stopping.write_listening.Goals as goal

pub returns : goal.returns
returns g c = c.write_number.ensures
