use Rattle.std.proofs.Common.{subst}
use Rattle.sqlite.specs.Held.{state}
use Rattle.table_rows.specs.Tables.{Tables}
use Rattle.sql_rows.specs.Image.{Moves}
use Rattle.sql_rows.specs.Many.{WroteMany}
use Rattle.remaking.specs.Rows.{with_all, without_bytes}
use Rattle.remaking.proofs.Several.{all_each, all_same, same_made}
use Rattle.remaking.proofs.filling.fill_bare.Goals as goal

pub returns-clause-wrote : goal.returns-clause-wrote
returns-clause-wrote g c clean =
    let rows = c.args.tables.now in
    let s0 = state g.S.Store c.args.tx.now.conn.now in
    let s1 = state g.S.Store c.put_rows.new.tx.conn.now in
    let given =
    subst (λ (t : Tables). WroteMany (Moves (all_each t)) s0 s1 c.put_rows.result) (λ i. record {
      products = c.as_slice.ensures.value i;
      lots = c.as_slice-2.ensures.value i;
      batches = c.as_slice-5.ensures.value i;
      records = c.as_slice-3.ensures.value i;
      groupings = c.as_slice-4.ensures.value i;
      sessions = c.as_slice-6.ensures.value i;
      words = c.as_slice-7.ensures.value i;
      blanks = c.as_slice-8.ensures.value i;
      remakes = c.as_slice-9.ensures.value i;
      replies = c.as_slice-10.ensures.value i;
      marks = c.as_slice-11.ensures.value i;
    }) (c.put_rows.ensures.wrote clean) in
    let wrote = subst (λ (t : Tables). WroteMany (Moves (all_each t)) s0 s1 c.put_rows.result) c.tables.view_is given in
    same_made (with_all (without_bytes rows)) (all_each rows) (all_same rows) s0 s1 c.put_rows.result wrote
