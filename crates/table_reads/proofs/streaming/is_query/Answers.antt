use Rattle.std.proofs.Common.{◌≡◌, Ok, rules}
use Rattle.sqlite_syntax.specs.Statement.{parse}
use Rattle.table_reads.proofs.OneByOne.{never}
use Rattle.table_reads.proofs.streaming.is_query.Goals as goal

pub returns-in-Ok : goal.returns-in-Ok
returns-in-Ok c = λ yes.
    let parsed : parse c.args.sql.now ≡ Ok c.in-Ok.parsed = search rules in
    let query = c.is_select.ensures yes in
    never c.args.sql.now c.in-Ok.parsed parsed query.0 query.1
