use Rattle.std.proofs.Common.{length}
use Rattle.sqlite.specs.Held.{state}
use Rattle.store_reads.proofs.Counting.{counted}
use Rattle.store_reads.proofs.ReadContents.{reads}
use Rattle.store_reads.proofs.counts.session_count.Goals as goal

pub returns-clause-value : goal.returns-clause-value
returns-clause-value g c =
    reads (state g.S.Store c.args.conn.now) (state g.S.Store c.last_session.new.conn) c.last_session.result _ _ c.last_session.ensures.finds.found
    (λ d sound x is. counted _ (length d.facts.sessions) x (c.numbers_of_rows.ensures.session_ids d.facts) is)
