-- The values of a row in its table, preceded by the rowid if a column is an alias of the rowid.
use Rattle.std.specs.Prelude.{ℕ, pos, Bool, true, false, [], ◌∷◌}
use Rattle.sqlite.specs.declared.types.Value.{Value}
use Rattle.sqlite.specs.declared.types.Value.TheVariants.{Null, Int, Text, Blob}
use Rattle.sqlite.specs.Order.{Row}
use Rattle.store_data.specs.declared.row.Enc.{Enc}
use Rattle.store_data.specs.declared.row.Enc.TheVariants as enc
use Rattle.store_data.specs.declared.row.Product.{Product}
use Rattle.job_facts.specs.declared.facts.RecordState.{RecordState}
use Rattle.job_facts.specs.declared.facts.RecordState.TheVariants as rec
use Rattle.job_facts.specs.declared.facts.SessionState.{SessionState}
use Rattle.job_facts.specs.declared.facts.SessionState.TheVariants as session
use Rattle.job_facts.specs.Contents.{Entry, Mark}
use Rattle.table_rows.specs.Tables.{StoredBatch, StoredBlank, StoredGrouping, StoredLot, StoredRecord, StoredRemake, StoredSession, StoredWord}

abbrev pub number : ℕ → Value
number n = Int (pos n)

-- ---- numbers for states and flags (this project's profile)

abbrev pub flag : Bool → ℕ
flag false = 0
flag true = 1

abbrev pub record_code : RecordState → ℕ
record_code rec.Waiting = 0
record_code rec.Running = 1
record_code rec.Failed = 2
record_code rec.Withdrawn = 3
record_code rec.Good = 4

abbrev pub session_code : SessionState → ℕ
session_code session.Running = 0
session_code session.Good = 1
session_code session.Spoiled = 2

abbrev pub enc_code : Enc → ℕ
enc_code enc.Plain = 0
enc_code enc.All = 1
enc_code enc.Mixed = 2

-- ---- rows; an id that is the rowid is in the position of the rowid, and its own column is NULL

abbrev pub product_row : Product → Row
product_row p = Text p.code ∷ number p.max ∷ number p.low ∷ number (flag p.check) ∷ []

abbrev pub lot_row : StoredLot → Row
lot_row l = Text l.lot.name ∷ Text l.lot.product ∷ number l.lot.first ∷ number l.lot.count ∷ number l.discarded ∷ []

abbrev pub batch_row : StoredBatch → Row
batch_row b =
    number b.id ∷ Null ∷ Text b.name ∷ Text b.product ∷ Blob b.raw ∷ number (flag b.closed)
    ∷ number b.waiting ∷ number b.running ∷ number b.failed ∷ number b.withdrawn ∷ number b.good ∷ number b.sessions ∷ number b.spoiled ∷ []

abbrev pub record_row : StoredRecord → Row
record_row r = number r.batch ∷ number r.place ∷ Text r.name ∷ number (record_code r.state) ∷ number r.spoiled ∷ number r.remakes ∷ []

abbrev pub grouping_row : StoredGrouping → Row
grouping_row g =
    number g.batch ∷ number g.line ∷ number g.place ∷ Blob g.aid ∷ number g.rank ∷ number (enc_code g.enc) ∷ number (flag g.tol) ∷ Blob g.coded ∷ []

abbrev pub session_row : StoredSession → Row
session_row s =
    number s.id ∷ Null ∷ Text s.machine ∷ number s.batch ∷ number s.place ∷ number s.serial ∷ number (session_code s.state) ∷ number (flag s.ended) ∷ number s.words
    ∷ number s.cursor.app ∷ number s.cursor.segment ∷ number s.cursor.offset ∷ number s.cursor.block ∷ []

abbrev pub word_row : StoredWord → Row
word_row w = number w.session ∷ number w.place ∷ number w.sw ∷ []

abbrev pub blank_row : StoredBlank → Row
blank_row b = number b.serial ∷ Null ∷ Text b.lot ∷ number (flag b.discarded) ∷ []

abbrev pub remake_row : StoredRemake → Row
remake_row r = number r.batch ∷ number r.place ∷ number r.turn ∷ []

abbrev pub reply_row : Entry → Row
reply_row e = Text e.client ∷ number e.number ∷ Blob e.ask ∷ number e.status ∷ Blob e.body ∷ []

abbrev pub mark_row : Mark → Row
mark_row m = Text m.client ∷ number m.upto ∷ []
