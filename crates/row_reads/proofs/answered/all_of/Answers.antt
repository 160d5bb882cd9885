use Rattle.std.proofs.Common.{◌≡◌, map}
use Rattle.sqlite.specs.Values.{bound}
use Rattle.row_reads.proofs.AnswersOfRows.{answered}
use Rattle.row_reads.proofs.answered.all_of.Goals as goal

pub returns-clause-answered : goal.returns-clause-answered
returns-clause-answered g c =
    answered g.S.Store c.args.conn.now c.rows_of.new.conn c.args.sql.now (bound c.args.params.now) _ _ c.as_slice.ensures.value c.all.result
    (λ rows all. all.items ≡ map g.T.Answered.value rows) c.all.ensures.value c.in_ok-rows.ensures.shown
