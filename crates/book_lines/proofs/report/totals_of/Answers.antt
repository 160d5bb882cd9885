use Rattle.std.proofs.Common.{ap, ◌∙◌}
use Rattle.job_facts.specs.declared.rows.BatchTotals.{BatchTotals}
use Rattle.table_rows.specs.Tables.{StoredBatch}
use Rattle.book_lines.proofs.ReportLemmas.{totals_are_of}
use Rattle.book_lines.proofs.report.totals_of.Goals as goal

pub returns : goal.returns
returns c =
    let with_row : StoredBatch → BatchTotals = λ b. record {
      records = c.records.result;
      waiting = b.waiting;
      running = b.running;
      failed = b.failed;
      withdrawn = b.withdrawn;
      good = b.good;
      sessions = b.sessions;
      spoiled = b.spoiled;
    } in
    ap with_row c.batch.view_is ∙ totals_are_of c.args.tables.now c.args.batch.now c.records.result c.requires.audited c.records.ensures
