use Rattle.list_store.specs.Lists.{contents}
use Rattle.server.specs.Memory.{queue, texts}
use Rattle.drill.proofs.Served.{served_is}
use Rattle.drill.proofs.inputs.serve_inputs.Goals as goal

pub returns-clause-served : goal.returns-clause-served
returns-clause-served c =
    let all = c.in_ok-serve_all.ensures.served in (
      all.0,
      all.3,
      served_is (texts c.args.inputs.items) c.args.turns (queue c.new-connections.result) (queue c.serve_all.new.connections) (contents c.new-store.result) (contents c.serve_all.new.store) all.0
          c.new-connections.ensures.done c.new-connections.ensures.coming c.new-store.ensures all.1 all.2 all.3,
    )
