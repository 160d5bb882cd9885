use Rattle.std.proofs.Common.{Result, Ok, Err, OnOk, arith, rules}
use Rattle.sqlite.specs.Effect.{Database}
use Rattle.sqlite.specs.Held.{state}
use Rattle.sqlite.specs.State.{State}
use Rattle.sqlite.specs.Steps.{over_memory}
use Rattle.sqlite.proofs.Callers.{memory_is_clean}
use Rattle.sql_base.specs.Ends.{Ends}
use Rattle.sql_base.proofs.Causing.{ended_had}
use Rattle.sql_base.proofs.Ending.{ok_of}
use Rattle.sql_tables.specs.Opening.{MakesVersion}
use Rattle.sql_tables.proofs.Memory.{no_disk, no_disk_had, unblamed}
use Rattle.sql_tables.proofs.opening.make_in_memory.Goals as goal

made_of : {X E : Type 0} (r : Result X E) (R : Database → Database → Type 0) (a b : State) → OnOk r (Ends R a b) → OnOk r (R a.now b.now)
made_of (Ok x) R a b h = h.made
made_of (Err e) R a b h = tt

pub returns-clause-made : goal.returns-clause-made
returns-clause-made c =
    let old = c.args.conn.now in
    let mid = c.make_version.new.tx.conn.now in
    let end = c.commit.new.self.0 in
    let wrote = rw c.transaction-tx.ensures.begun at (c.in_ok-make_version.ensures.made (memory_is_clean mid)) in
    let ends = ok_of over_memory (λ s db live may. may) (MakesVersion c.args.version) old mid end c.commit.result wrote.well (c.commit.ensures.ok (memory_is_clean end)) in
    let made = made_of c.commit.result (MakesVersion c.args.version) (state over_memory old) (state over_memory end) ends in
    search (rules, made)

pub returns-clause-cause : goal.returns-clause-cause
returns-clause-cause c =
    let old = c.args.conn.now in
    let mid = c.make_version.new.tx.conn.now in
    let end = c.commit.new.self.0 in
    no_disk_had old end c.commit.result (ended_had over_memory old mid end c.commit.result (omega arith) (c.commit.ensures.err (memory_is_clean end)))

pub returns-in_err-make_version-clause-cause : goal.returns-in_err-make_version-clause-cause
returns-in_err-make_version-clause-cause c =
    let mid = c.make_version.new.tx.conn.now in
    let e = c.in_err-make_version.field-0.0 in
    unblamed e c.from_residual.result c.from_residual.ensures.1 (no_disk c.transaction-tx.result.conn.now mid e (c.in_err-make_version.ensures.no_trace.cause (memory_is_clean mid)))
