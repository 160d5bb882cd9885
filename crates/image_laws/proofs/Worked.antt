-- A worked example of an image: the second status word spoiled a card, and its record was remade.
-- The rows of the batch file are given, because reading it isn't part of the image.
use Rattle.std.proofs.Common.{◌≡◌, ℕ, true, false, List, [], ◌∷◌, codes, refl}
use Rattle.store_data.specs.declared.row.Product.{Product}
use Rattle.store_data.specs.declared.row.Row.{Row}
use Rattle.store_data.specs.declared.row.Enc.TheVariants.{Plain}
use Rattle.store_data.specs.Cursor.{application_cursors, cursors_of}
use Rattle.store_data.specs.Groups.{grouped}
use Rattle.store_data.specs.Ranks.{by_rank, ranks}
use Rattle.store_data.specs.Sequence.{applications_of, piece_count, segments_of}
use Rattle.job_facts.specs.declared.facts.RecordState.TheVariants as rec
use Rattle.job_facts.specs.declared.facts.SessionState.TheVariants as session
use Rattle.job_facts.specs.Accounts.{batch_totals, record_states, session_states}
use Rattle.job_facts.specs.Facts.{Batch, Facts}
use Rattle.job_facts.specs.States.{plan_for, record_state, records_of, rows_of, session_cursor, session_state, states_of}
use Rattle.table_rows.specs.After.{new_batch}
use Rattle.table_rows.specs.Tables.{StoredBatch}
use Rattle.image_laws.specs.Image.{stored_batches, stored_blanks, stored_groupings, stored_lots, stored_records, stored_remakes, stored_sessions, stored_words}

abbrev product : Product
product = record { code = codes "P1"; max = 255; low = 0; check = false }

abbrev row : Row
row = record { rec = codes "R1"; aid = 240 ∷ 0 ∷ 0 ∷ 0 ∷ 1 ∷ 1 ∷ []; rank = 1; enc = Plain; tol = false; coded = 1 ∷ 1 ∷ 2 ∷ 112 ∷ 0 ∷ [] }

module _ (raw : List ℕ) where
  abbrev batch : Batch
  batch = record { name = codes "B1"; product = codes "P1"; raw = raw }

  abbrev facts : Facts
  facts = record {
    products = product ∷ [];
    lots = record { name = codes "L1"; product = codes "P1"; first = 1000; count = 3 } ∷ [];
    batches = batch ∷ [];
    sessions = record { machine = codes "m1"; batch = codes "B1"; rec = codes "R1"; blank = 1000; words = 36864 ∷ 27264 ∷ []; ended = false } ∷ [];
    discarded = 1002 ∷ [];
    remakes = record { batch = codes "B1"; rec = codes "R1" } ∷ [];
    withdrawn = [];
    closed = [];
  }

  lots_are : stored_lots facts ≡ record { lot = record { name = codes "L1"; product = codes "P1"; first = 1000; count = 3 }; discarded = 1 } ∷ []
  unfolding stored_lots
  lots_are = refl

  blanks_are : stored_blanks facts ≡ record { serial = 1000; lot = codes "L1"; discarded = false } ∷ record { serial = 1002; lot = codes "L1"; discarded = true } ∷ []
  unfolding stored_blanks
  blanks_are = refl

  words_are : stored_words facts ≡ record { session = 1; place = 0; sw = 36864 } ∷ record { session = 1; place = 1; sw = 27264 } ∷ []
  unfolding stored_words
  words_are = refl

  module _ (rows_are : rows_of (product ∷ []) batch ≡ row ∷ []) where
    groupings_are : stored_groupings facts
        ≡ record { batch = 1; line = 2; place = 0; aid = 240 ∷ 0 ∷ 0 ∷ 0 ∷ 1 ∷ 1 ∷ []; rank = 1; enc = Plain; tol = false; coded = 1 ∷ 1 ∷ 2 ∷ 112 ∷ 0 ∷ [] } ∷ []
    unfolding stored_groupings records_of
    groupings_are = rw rows_are refl

    sessions_are : stored_sessions facts
        ≡ record { id = 1; machine = codes "m1"; batch = 1; place = 0; serial = 1000; state = session.Spoiled; ended = false; words = 2; cursor = record { app = 0; segment = 0; offset = 0; block = 1 } } ∷ []
    unfolding stored_sessions records_of session_state session_cursor plan_for cursors_of application_cursors applications_of segments_of grouped by_rank ranks piece_count
    sessions_are = rw rows_are refl

    records_are : stored_records facts ≡ record { batch = 1; place = 0; name = codes "R1"; state = rec.Waiting; spoiled = 1; remakes = 1 } ∷ []
    unfolding stored_records records_of record_state states_of session_state plan_for applications_of segments_of grouped by_rank ranks piece_count
    records_are = rw rows_are refl

    remakes_are : stored_remakes facts ≡ record { batch = 1; place = 0; turn = 1 } ∷ []
    unfolding stored_remakes records_of
    remakes_are = rw rows_are refl

    abbrev counted : StoredBatch
    counted = record (new_batch 1 (codes "B1") (codes "P1") raw 1) { sessions = 1; spoiled = 1 }

    batches_are : stored_batches facts ≡ counted ∷ []
    unfolding stored_batches batch_totals record_states session_states records_of record_state states_of session_state plan_for applications_of segments_of grouped by_rank ranks piece_count
    batches_are = rw rows_are refl
