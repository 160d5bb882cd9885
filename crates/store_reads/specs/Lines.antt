-- The lines of a batch's records, from the rows of the records and of the good cards of the batch.
use Rattle.std.specs.Prelude.{◌+◌, ◌==◌, ℕ, Bool, List, map, filter, find, Option, option_map}
use Rattle.job_facts.specs.declared.rows.RecordLine.{RecordLine}
use Rattle.job_facts.specs.Facts.{Facts}
use Rattle.row_reads.specs.declared.records.RecordAt.{RecordAt}
use Rattle.row_reads.specs.declared.sessions.GoodCard.{GoodCard}
use Rattle.image_laws.specs.Image.{stored_records, stored_sessions}
use Rattle.table_rows.specs.Keys.{is_good_of, is_record_of}
use Rattle.row_laws.specs.RowValues.{cards, line_of}

-- `g` is a card of the record at position `k`.
abbrev pub is_card_at : ℕ → GoodCard → Bool
is_card_at k g = g.place == k

-- the blank of the first good card of the record at position `k`
abbrev pub blank_of : List GoodCard → ℕ → Option ℕ
blank_of good k = option_map (λ (g : GoodCard). g.serial) (find (is_card_at k) good)

abbrev pub line_with : RecordAt → Option ℕ → RecordLine
line_with r blank = record { rec = r.name; stands = r.stands; sessions = r.spoiled + cards r.stands; blank = blank }

-- the line of the record `r`
abbrev pub line_for : List GoodCard → RecordAt → RecordLine
line_for good r = line_with r (blank_of good r.place)

-- the lines of the records of the batch with the id `id`
abbrev pub lines_with : Facts → ℕ → List RecordLine
lines_with f id = map (line_of (filter (is_good_of id) (stored_sessions f))) (filter (is_record_of id) (stored_records f))
