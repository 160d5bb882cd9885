-- The rows of a database and their verdict, from rows that were read without the bytes of replies.
use Rattle.std.proofs.Common.{◌↔◌, IsTrue, None, Option, Some, subst}
use Rattle.std.specs.Prelude.{IfSome}
use Rattle.sqlite.specs.Effect.{Database}
use Rattle.table_rows.specs.Tables.{HaveSameRows, Tables}
use Rattle.audit_rows.specs.Rules.{FailsFirst, rules}
use Rattle.audit_rows.specs.declared.rule.Rule.{Rule}
use Rattle.table_reads.specs.Reading.{IsForAudit}
use Rattle.table_reads.specs.Rowids.{StandAsMade}
use Rattle.table_reads.specs.Unread.{without_reply_bytes}
use Rattle.table_reads.specs.declared.tables.HeldRows.{HeldRows}
use Rattle.table_reads.proofs.AnyOrder.{any_order}
use Rattle.examination.specs.Findings.{AreReadFrom, HasVerdict}
use Rattle.examination.specs.declared.finding.ExaminedRows.{ExaminedRows}
use Rattle.examination.proofs.Rules.{fails_whole, sorted_whole}
use Rattle.examination.proofs.Unread.{with_bytes, with_bytes_sound, without_bytes_sound}

first_whole : (t : Tables) (failing : Option Rule) → IfSome failing (FailsFirst rules (without_reply_bytes t)) → IfSome failing (FailsFirst rules t)
first_whole t None first = tt
first_whole t (Some rule) first = fails_whole t rule first

-- Rows have the verdict that they have without the bytes of replies.
verdict_whole : (t : Tables) (failing : Option Rule) → HasVerdict (without_reply_bytes t) failing → HasVerdict t failing
verdict_whole t failing verdict = record {
  sorted = sorted_whole t verdict.sorted;
  sound = (λ none. with_bytes_sound t (verdict.sound.0 none), λ whole. verdict.sound.1 (without_bytes_sound t whole));
  first = first_whole t failing verdict.first;
}

-- The rows for the audit, in another order, with their verdict, were read from the database.
pub read_from : (db : Database) (held : HeldRows) (read : ExaminedRows) (failing : Option Rule) → IsForAudit read.version db held → HaveSameRows read.tables held.tables → HasVerdict read.tables failing
    → (IsTrue read.as_made ↔ StandAsMade db) → AreReadFrom db read failing
read_from db held read failing is same verdict as_made =
    let t : Tables = read.tables in
    let all = with_bytes t is.rows (subst (HaveSameRows t) is.tables same) in
    let whole : Tables = record t { replies = all.0 } in
    record {
      rows = whole;
      held = any_order read.version whole is.rows db all.1 is.holds;
      verdict = verdict_whole whole failing (subst (λ (u : Tables). HasVerdict u failing) all.2 verdict);
      tables = all.2;
      as_made = as_made;
    }
