use Rattle.sqlite.specs.Held.{state}
use Rattle.store_reads.proofs.ReadContents.{reads}
use Rattle.store_reads.proofs.names.product.Goals as goal

pub returns-clause-value : goal.returns-clause-value
returns-clause-value g c = reads (state g.S.Store c.args.conn.now) (state g.S.Store c.product.new.conn) c.product.result _ _ c.product.ensures.finds.found (λ d sound x is. is sound.facts.named.products.once)
