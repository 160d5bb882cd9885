use Rattle.std.proofs.Common.{ℕ, true, [], ◌∷◌, ◌↔◌, IsTrue, subst}
use Rattle.std.specs.List.Sorted.{IsPermutation}
use Rattle.sqlite.specs.Held.{state}
use Rattle.sql_base.proofs.Selecting.{if_ok}
use Rattle.sql_rows.specs.Image.{given_rows}
use Rattle.sql_tables.specs.Finds.{Finds}
use Rattle.sql_tables.specs.Versions.{numbered_version_at}
use Rattle.table_reads.specs.Version.{numbered_row}
use Rattle.table_reads.proofs.SaidVersion.{says_as}
use Rattle.table_reads.proofs.version.says.Goals as goal

pub returns-clause-value : goal.returns-clause-value
returns-clause-value g c clean =
    let db = (state g.S.Store c.args.conn.now).now in
    if_ok c.says_version.result _ _ (λ says is. (
      is.0,
      says_as c.args.version db says
          (subst (λ k. (n tree : ℕ) → Finds db.schema (numbered_version_at n tree) → IsTrue says ↔ IsPermutation (numbered_row k ∷ []) (given_rows true (db.trees tree))) c.number.ensures is.1),
    )) (c.says_version.ensures.value clean)
