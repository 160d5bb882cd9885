use Rattle.sqlite.specs.Held.{state}
use Rattle.adoption.proofs.Settled.{stays}
use Rattle.adoption.proofs.Unwritten.{only_read}
use Rattle.adoption.proofs.settling.settle.Goals as goal

pub returns-then-rows-clause-ok : goal.returns-then-rows-clause-ok
returns-then-rows-clause-ok g c clean =
    stays g.S.Store g.met.S.Store.settled c.args.conn.now c.stay_open.new.conn c.args.rows c.our_rows_are_an_image.ensures.image
    c.is_committed.ensures c.is_live.ensures clean c.if-rows.true (c.stay_open.ensures.looks.kept clean) c.stay_open.ensures.looks.survives c.stay_open.result (c.stay_open.ensures.open clean)

pub returns-then-rows-clause-unchanged : goal.returns-then-rows-clause-unchanged
returns-then-rows-clause-unchanged g c t is clean stand = only_read (state g.S.Store c.args.conn.now) (state g.S.Store c.stay_open.new.conn) c.stay_open.ensures.looks.kept c.stay_open.ensures.looks.survives clean

-- Tables that are as the store creates them need not be rebuilt.
pub returns-clause-unchanged : goal.returns-clause-unchanged
returns-clause-unchanged g c t is clean stand =
    let stay = is.as_made.1 stand in
    absurd (cc (stay, c.if-rows.false))
