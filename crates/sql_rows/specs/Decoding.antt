-- The typed row that the values of a row represent.
use Rattle.std.specs.Prelude.{ℕ, zero, suc, pos, Bool, false, not, List, []}
use Rattle.std.specs.Ordering.{int_eq}
use Rattle.sqlite.specs.declared.types.Value.{Value}
use Rattle.sqlite.specs.declared.types.Value.TheVariants.{Int, Text, Blob}
use Rattle.sqlite.specs.Order.{Row, column}
use Rattle.store_data.specs.declared.row.Enc.{Enc}
use Rattle.store_data.specs.declared.row.Enc.TheVariants as enc
use Rattle.store_data.specs.declared.row.Product.{Product}
use Rattle.job_facts.specs.declared.facts.RecordState.{RecordState}
use Rattle.job_facts.specs.declared.facts.RecordState.TheVariants as rec
use Rattle.job_facts.specs.declared.facts.SessionState.{SessionState}
use Rattle.job_facts.specs.declared.facts.SessionState.TheVariants as session
use Rattle.job_facts.specs.Contents.{Entry, Mark}
use Rattle.table_rows.specs.Tables.{StoredBatch, StoredBlank, StoredGrouping, StoredLot, StoredRecord, StoredRemake, StoredSession, StoredWord}

-- ---- values

abbrev pub number_in : Value → ℕ
number_in (Int (pos n)) = n
number_in _ = 0

abbrev pub flag_in : Value → Bool
flag_in (Int n) = not (int_eq n (pos 0))
flag_in _ = false

abbrev pub bytes_in : Value → List ℕ
bytes_in (Text bytes) = bytes
bytes_in (Blob bytes) = bytes
bytes_in _ = []

-- ---- codes

abbrev pub record_state_of_code : ℕ → RecordState
record_state_of_code zero = rec.Waiting
record_state_of_code (suc zero) = rec.Running
record_state_of_code (suc (suc zero)) = rec.Failed
record_state_of_code (suc (suc (suc zero))) = rec.Withdrawn
record_state_of_code _ = rec.Good

abbrev pub session_state_of_code : ℕ → SessionState
session_state_of_code zero = session.Running
session_state_of_code (suc zero) = session.Good
session_state_of_code _ = session.Spoiled

abbrev pub enc_of_code : ℕ → Enc
enc_of_code zero = enc.Plain
enc_of_code (suc zero) = enc.All
enc_of_code _ = enc.Mixed

-- ---- rows

abbrev number_at : Row → ℕ → ℕ
number_at row k = number_in (column row k)

abbrev bytes_at : Row → ℕ → List ℕ
bytes_at row k = bytes_in (column row k)

abbrev flag_at : Row → ℕ → Bool
flag_at row k = flag_in (column row k)

abbrev pub product_of : Row → Product
product_of row = record { code = bytes_at row 0; max = number_at row 1; low = number_at row 2; check = flag_at row 3 }

abbrev pub lot_of : Row → StoredLot
lot_of row = record {
  lot = record { name = bytes_at row 0; product = bytes_at row 1; first = number_at row 2; count = number_at row 3 };
  discarded = number_at row 4;
}

abbrev pub batch_of : Row → StoredBatch
batch_of row = record {
  id = number_at row 0;
  name = bytes_at row 2;
  product = bytes_at row 3;
  raw = bytes_at row 4;
  closed = flag_at row 5;
  waiting = number_at row 6;
  running = number_at row 7;
  failed = number_at row 8;
  withdrawn = number_at row 9;
  good = number_at row 10;
  sessions = number_at row 11;
  spoiled = number_at row 12;
}

abbrev pub record_of : Row → StoredRecord
record_of row = record {
  batch = number_at row 0;
  place = number_at row 1;
  name = bytes_at row 2;
  state = record_state_of_code (number_at row 3);
  spoiled = number_at row 4;
  remakes = number_at row 5;
}

abbrev pub grouping_of : Row → StoredGrouping
grouping_of row = record {
  batch = number_at row 0;
  line = number_at row 1;
  place = number_at row 2;
  aid = bytes_at row 3;
  rank = number_at row 4;
  enc = enc_of_code (number_at row 5);
  tol = flag_at row 6;
  coded = bytes_at row 7;
}

abbrev pub session_of : Row → StoredSession
session_of row = record {
  id = number_at row 0;
  machine = bytes_at row 2;
  batch = number_at row 3;
  place = number_at row 4;
  serial = number_at row 5;
  state = session_state_of_code (number_at row 6);
  ended = flag_at row 7;
  words = number_at row 8;
  cursor = record { app = number_at row 9; segment = number_at row 10; offset = number_at row 11; block = number_at row 12 };
}

abbrev pub word_of : Row → StoredWord
word_of row = record { session = number_at row 0; place = number_at row 1; sw = number_at row 2 }

abbrev pub blank_of : Row → StoredBlank
blank_of row = record { serial = number_at row 0; lot = bytes_at row 2; discarded = flag_at row 3 }

abbrev pub remake_of : Row → StoredRemake
remake_of row = record { batch = number_at row 0; place = number_at row 1; turn = number_at row 2 }

abbrev pub reply_of : Row → Entry
reply_of row = record { client = bytes_at row 0; number = number_at row 1; ask = bytes_at row 2; status = number_at row 3; body = bytes_at row 4 }

abbrev pub mark_of : Row → Mark
mark_of row = record { client = bytes_at row 0; upto = number_at row 1 }
