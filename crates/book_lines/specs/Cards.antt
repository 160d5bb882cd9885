-- The output of `shopbook cards`: a line for each session of a batch, by its records in file order,
-- and for each record in the order in which its sessions were opened.
use Rattle.std.specs.Prelude.{ℕ, ◌-◌, List, [], ◌∷◌, codes, filter, find, flat_map, length, map, slice_get, Option, option_map}
use Rattle.table_rows.specs.Keys.{is_batch_named, is_record_of}
use Rattle.table_rows.specs.Tables.{StoredBatch, StoredRecord, StoredSession, Tables}
use Rattle.audit_laws.specs.Audited.{is_session_at, words_of}
use Rattle.book_lines.specs.declared.form.Form.{Form}
use Rattle.book_lines.specs.Blanks.{stands_by, state_word}
use Rattle.book_lines.specs.Lines.{Line, digits_cell, lines_by, number_cell, status_cell, word_cell}

-- a card: a record, one of its sessions, and the last status word of the session, if it has one
pub record Card : Type 0 where
  pub rec : StoredRecord
  pub session : StoredSession
  pub last : Option ℕ

abbrev pub last_word : Tables → StoredSession → Option ℕ
last_word t s = slice_get (words_of t.words s.id) (length (words_of t.words s.id) - 1)

abbrev pub card_of : Tables → StoredRecord → StoredSession → Card
card_of t r s = record { rec = r; session = s; last = last_word t s }

-- the cards of the record `r`, one for each session
abbrev pub record_cards : Tables → StoredRecord → List Card
record_cards t r = map (card_of t r) (filter (is_session_at r.batch r.place) t.sessions)

abbrev pub batch_cards : Tables → StoredBatch → List Card
batch_cards t b = flat_map (record_cards t) (filter (is_record_of b.id) t.records)

abbrev pub card_line : Card → Line
card_line c = record {
  kind = codes "card";
  cells = word_cell (codes "record") c.rec.name ∷ number_cell (codes "session") c.session.id ∷ word_cell (codes "machine") c.session.machine
      ∷ digits_cell (codes "serial") c.session.serial ∷ word_cell (codes "state") (state_word (stands_by c.session.state))
      ∷ number_cell (codes "words") c.session.words ∷ status_cell (codes "last") c.last ∷ [];
}

abbrev pub cards_text : Form → Tables → StoredBatch → List ℕ
cards_text form t b = lines_by form card_line (batch_cards t b)

-- the output for the batch `name`, or `None` if the batch doesn't exist
abbrev pub cards_of : Form → Tables → List ℕ → Option (List ℕ)
cards_of form t name = option_map (cards_text form t) (find (is_batch_named name) t.batches)
