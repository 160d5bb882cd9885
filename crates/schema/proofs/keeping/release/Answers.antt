use Rattle.std.proofs.Common.{arith, refl}
use Rattle.sqlite.specs.Held.{state}
use Rattle.job_facts.specs.Contents.{IsOwedRelease, released}
use Rattle.sql_rows.specs.Image.{Moves}
use Rattle.table_rows.specs.After.{rows_written}
use Rattle.job_facts.specs.Kept.{kept_reply}
use Rattle.table_rows.specs.declared.writing.Writing.TheVariants as writing
use Rattle.store_reads.specs.Known.{known_records}
use Rattle.store_reads.proofs.Knowing.{known_after}
use Rattle.schema.specs.MovesContents.{MovesContents}
use Rattle.schema.proofs.Knowing.{knows_written}
use Rattle.schema.proofs.Taking.{ends_as, left_as, release_taken}
use Rattle.schema.proofs.keeping.release.Goals as goal

pub returns-clause-ok : goal.returns-clause-ok
returns-clause-ok g c clean =
    let kept = kept_reply c.args.entry.now in
    let upto = c.args.upto in
    ends_as (Moves (rows_written (writing.Releases kept.client upto) kept)) (MovesContents (IsOwedRelease upto kept) (λ d. released d upto kept)) (state g.S.Store c.args.conn.now) (state g.S.Store c.commit.new.conn)
    (release_taken c.rows_after_release.ensures upto kept _) c.commit.result (c.commit.ensures.ok clean)

pub returns-clause-crash : goal.returns-clause-crash
returns-clause-crash g c =
    let kept = kept_reply c.args.entry.now in
    let upto = c.args.upto in
    left_as (Moves (rows_written (writing.Releases kept.client upto) kept)) (MovesContents (IsOwedRelease upto kept) (λ d. released d upto kept)) (state g.S.Store c.args.conn.now) (state g.S.Store c.commit.new.conn)
    (release_taken c.rows_after_release.ensures upto kept _) c.commit.ensures.crash

pub returns-clause-knows : goal.returns-clause-knows
returns-clause-knows g c =
    let kept = kept_reply c.args.entry.now in
    let w = writing.Releases kept.client c.args.upto in
    knows_written w kept (state g.S.Store c.args.conn.now) (state g.S.Store c.commit.new.conn) c.args.known.now c.args.known.now c.requires.knows
    (λ clean. omega (arith, clean, c.commit.ensures.crash.clean)) (λ t known. known)
    (λ t known. record {
      records = known_after w kept t (known_records c.args.known.now) refl known.records;
      standing = known.standing;
      counted = known.counted;
    }) c.commit.result c.commit.ensures.ok c.commit.ensures.err
