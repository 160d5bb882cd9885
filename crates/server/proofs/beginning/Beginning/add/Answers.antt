use Rattle.server.proofs.BeginningLemmas.{added}
use Rattle.server.proofs.beginning.Beginning.add.Goals as goal

pub returns : goal.returns
returns g c = rw (c.put-self-inside.ensures.text, c.min-count.ensures) (added g.row.N c.self.inside.len c.self.inside.bytes c.args.self.now c.args.text.now c.self.told c.self.invariant c.self.view_is)
