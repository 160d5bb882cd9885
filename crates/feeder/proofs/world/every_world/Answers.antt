use Rattle.feeder.specs.World.{at_first, machines_of, world_after}
use Rattle.feeder.proofs.Lines.{charged, in_flight, old_boots, one_card, put_out, releases_kept, whole}
use Rattle.feeder.proofs.Readings.{readable}
use Rattle.feeder.proofs.Recorded.{repeats_get_their_reply, run_recorded, start_recorded}
use Rattle.feeder.proofs.Whole.{world_fine}
use Rattle.feeder.proofs.world.every_world.Goals as goal

pub returns-clause-whole : goal.returns-clause-whole
returns-clause-whole c = let es = c.args.events.now in λ reads back. whole (machines_of es) (world_after reads es) (world_fine reads es back c.requires)

pub returns-clause-charged : goal.returns-clause-charged
returns-clause-charged c = let es = c.args.events.now in λ reads back. charged (machines_of es) (world_after reads es) (world_fine reads es back c.requires)

pub returns-clause-one_card : goal.returns-clause-one_card
returns-clause-one_card c = let es = c.args.events.now in λ reads back. one_card (machines_of es) (world_after reads es) (world_fine reads es back c.requires)

pub returns-clause-put_out : goal.returns-clause-put_out
returns-clause-put_out c = let es = c.args.events.now in λ reads back. put_out (machines_of es) (world_after reads es) (world_fine reads es back c.requires)

pub returns-clause-over : goal.returns-clause-over
returns-clause-over c = let es = c.args.events.now in λ reads back. old_boots (machines_of es) (world_after reads es) (world_fine reads es back c.requires)

pub returns-clause-meant : goal.returns-clause-meant
returns-clause-meant c = let es = c.args.events.now in λ reads. (run_recorded reads (machines_of es) es at_first start_recorded).meant

pub returns-clause-answered : goal.returns-clause-answered
returns-clause-answered c = let es = c.args.events.now in λ reads. (run_recorded reads (machines_of es) es at_first start_recorded).http_reply

pub returns-clause-acknowledged : goal.returns-clause-acknowledged
returns-clause-acknowledged c = let es = c.args.events.now in λ reads. (run_recorded reads (machines_of es) es at_first start_recorded).acknowledged

pub returns-clause-repeats : goal.returns-clause-repeats
returns-clause-repeats c = let es = c.args.events.now in λ reads. repeats_get_their_reply (world_after reads es) (run_recorded reads (machines_of es) es at_first start_recorded)

pub returns-clause-in_flight : goal.returns-clause-in_flight
returns-clause-in_flight c = let es = c.args.events.now in λ reads back. in_flight (machines_of es) (world_after reads es) (world_fine reads es back c.requires)

pub returns-clause-releases : goal.returns-clause-releases
returns-clause-releases c = let es = c.args.events.now in λ reads back. releases_kept (machines_of es) (world_after reads es) (world_fine reads es back c.requires)

pub returns-clause-marks : goal.returns-clause-marks
returns-clause-marks c = let es = c.args.events.now in λ reads. (run_recorded reads (machines_of es) es at_first start_recorded).releases.reached

pub returns-clause-reading : goal.returns-clause-reading
returns-clause-reading c = readable
