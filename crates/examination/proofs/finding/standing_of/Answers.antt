use Rattle.std.proofs.Common.{◌≡◌, ◌↔◌, IfSome, IsTrue, MatchOption, subst}
use Rattle.sqlite.specs.Held.{state}
use Rattle.sql_tables.specs.Alike.{HasExactly}
use Rattle.sql_tables.specs.Ours.{AreThere}
use Rattle.sql_tables.specs.Tables.{our_schema}
use Rattle.sql_tables.specs.Versions.{schema_of}
use Rattle.sql_tables.specs.declared.versions.Version.{Version}
use Rattle.table_reads.specs.Holding.{SaysVersion}
use Rattle.table_reads.proofs.Looking.{fails_unread}
use Rattle.examination.proofs.OtherVersion.{of_no_version}
use Rattle.examination.proofs.finding.standing_of.Goals as goal

pub returns-then-branch-clause-value : goal.returns-then-branch-clause-value
returns-then-branch-clause-value g c clean =
    let s = (state g.S.Store c.args.conn.now).now.schema in
    let said = c.in_ok-says.ensures.value clean in
    let there : AreThere s (schema_of c.in-Some.found.version).tables = subst (λ found. IfSome found (λ m. AreThere s (schema_of m.version).tables)) c.in-Some.is (c.in_ok-found.ensures.there said.0) in
    let just : HasExactly s (schema_of c.in-Some.found.version) =
    subst (λ found. MatchOption found ((v : Version) → ¬ HasExactly s (schema_of v)) (λ m. HasExactly s (schema_of m.version))) c.in-Some.is c.in_ok-found.ensures.exact in
    let exact : IsTrue c.in-Some.found.is_exact ↔ (s ≡ our_schema) = subst (λ found. IfSome found (λ m. IsTrue m.is_exact ↔ (s ≡ our_schema))) c.in-Some.is c.in_ok-found.ensures.created in
    ((just, (said.1 there).0 c.if-branch.true), there, exact)

pub returns-else-branch-clause-value : goal.returns-else-branch-clause-value
returns-else-branch-clause-value g c clean =
    let db = (state g.S.Store c.args.conn.now).now in
    let v = c.in-Some.found.version in
    let said = c.in_ok-says.ensures.value clean in
    let there : AreThere db.schema (schema_of v).tables = subst (λ found. IfSome found (λ m. AreThere db.schema (schema_of m.version).tables)) c.in-Some.is (c.in_ok-found.ensures.there said.0) in
    let just : HasExactly db.schema (schema_of v) =
    subst (λ found. MatchOption found ((w : Version) → ¬ HasExactly db.schema (schema_of w)) (λ m. HasExactly db.schema (schema_of m.version))) c.in-Some.is c.in_ok-found.ensures.exact in
    let other : ¬ SaysVersion v db = λ says. let yes = (said.1 there).1 says in absurd (cc (yes, c.if-branch.false)) in
    (of_no_version v db there other, (v, just, other))

pub returns-in_err-found-clause-looks : goal.returns-in_err-found-clause-looks
returns-in_err-found-clause-looks g c =
    let r = c.from_residual in
    fails_unread g.S.Store c.args.conn.now c.requires r.result c.in_err-found.field-0.0 r.ensures.1 c.in_err-found.ensures.cause

pub returns-in_err-difference-clause-looks : goal.returns-in_err-difference-clause-looks
returns-in_err-difference-clause-looks g c =
    let r = c.from_residual-in_err-difference in
    fails_unread g.S.Store c.args.conn.now c.requires r.result c.in_err-difference.field-0.0 r.ensures.1 c.in_err-difference.ensures.cause
