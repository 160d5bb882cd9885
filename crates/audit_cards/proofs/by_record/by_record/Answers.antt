use Rattle.audit_cards.proofs.ByRecordLemmas.{by_record_of}
use Rattle.audit_cards.proofs.by_record.by_record.Goals as goal

pub returns : goal.returns
returns c =
    by_record_of c.args.sessions.now c.in_ok-rows.rows.items c.sort_rows.new.rows.items c.in_ok-rows.ensures c.sort_rows.ensures.same c.in_ok-sort_rows.ensures.ordered c.sort_rows.ensures.stable
