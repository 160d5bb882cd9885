-- A session, from the part of its row that is read.
use Rattle.std.specs.Prelude.{ℕ, List}
use Rattle.job_facts.specs.declared.rows.SessionRow.{SessionRow}
use Rattle.row_reads.specs.declared.sessions.SessionAt.{SessionAt}

-- the session `s` of the record `r` of the batch `b`
abbrev pub row_named : SessionAt → List ℕ → List ℕ → SessionRow
row_named s b r = record { machine = s.machine; batch = b; rec = r; stands = s.stands; words = s.words; cursor = s.cursor }
