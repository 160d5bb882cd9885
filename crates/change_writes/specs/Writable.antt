-- The writes whose numbers are all integers of SQL, which are less than 2^63.
use Rattle.std.specs.Prelude.{ℕ, ◌+◌, ◌-◌, ◌<◌, ◌^◌, ⊤}
use Rattle.job_facts.specs.declared.rows.BatchTotals.{BatchTotals}
use Rattle.table_rows.specs.declared.writing.RecordPlace.{RecordPlace}
use Rattle.table_rows.specs.declared.writing.Writing.{Writing}
use Rattle.table_rows.specs.declared.writing.Writing.TheVariants as writing

-- Every counter is less than `end`.
pub record AreBelow (end : ℕ) (n : BatchTotals) : Type 0 where
  pub waiting : n.waiting < end
  pub running : n.running < end
  pub failed : n.failed < end
  pub withdrawn : n.withdrawn < end
  pub good : n.good < end
  pub sessions : n.sessions < end
  pub spoiled : n.spoiled < end

-- The batch id and the position of the record are integers of SQL, and its counts and the counters
-- of its batch are less than `end`.
pub record IsPlacedBelow (end : ℕ) (p : RecordPlace) : Type 0 where
  pub batch : p.batch < 2 ^ 63
  pub place : p.place < 2 ^ 63
  pub spoiled : p.spoiled < end
  pub remakes : p.remakes < end
  pub totals : AreBelow end p.totals

-- The record is as above, and each of its counts and counters can be increased by one.
abbrev pub HasRoom : RecordPlace → Type 0
HasRoom = IsPlacedBelow (2 ^ 63 - 1)

abbrev pub IsWritable : Writing → Type 0
IsWritable (writing.AddsLot l) = l.first < 2 ^ 63
IsWritable (writing.AddsBatch b) = b.number < 2 ^ 63
IsWritable (writing.Opens s p) = (s.number < 2 ^ 63) × (s.blank < 2 ^ 63) × HasRoom p
IsWritable (writing.AddsWord w) = w.session < 2 ^ 63
IsWritable (writing.AddsLastWord w stands p) = (w.session < 2 ^ 63) × HasRoom p
IsWritable (writing.Ends s p) = (s < 2 ^ 63) × HasRoom p
IsWritable (writing.Discards blank lot discarded) = (blank < 2 ^ 63) × (discarded + 1 < 2 ^ 63)
IsWritable (writing.Remakes p) = HasRoom p
IsWritable (writing.Withdraws was p) = HasRoom p
IsWritable (writing.Releases client upto) = upto < 2 ^ 63
IsWritable _ = ⊤
