-- A database has the rows of only one image.
use Rattle.std.proofs.Common.{◌≡◌, Bool, true, false, List, [], ◌∷◌, map, refl, subst}
use Rattle.std.specs.List.Sorted.{IsPermutation}
use Rattle.std.proofs.lemmas.List.Sorted.{IsPermutation-map, IsPermutation-sym, IsPermutation-trans}
use Rattle.sqlite.specs.Effect.{Database}
use Rattle.sqlite.specs.Order.{Row}
use Rattle.store_data.specs.declared.row.Enc.{Enc}
use Rattle.store_data.specs.declared.row.Enc.TheVariants as enc
use Rattle.store_data.specs.declared.row.Product.{Product}
use Rattle.job_facts.specs.declared.facts.RecordState.{RecordState}
use Rattle.job_facts.specs.declared.facts.RecordState.TheVariants as rec
use Rattle.job_facts.specs.declared.facts.SessionState.{SessionState}
use Rattle.job_facts.specs.declared.facts.SessionState.TheVariants as session
use Rattle.table_rows.specs.Tables.{HaveSameRows, StoredBatch, StoredBlank, StoredGrouping, StoredRecord, StoredSession, Tables}
use Rattle.sql_rows.specs.Decoding.{batch_of, blank_of, enc_of_code, flag_in, grouping_of, lot_of, mark_of, product_of, record_of, record_state_of_code, remake_of, reply_of, session_of, session_state_of_code, word_of}
use Rattle.sql_rows.specs.Encoding.{batch_row, blank_row, enc_code, flag, grouping_row, lot_row, mark_row, number, product_row, record_code, record_row, remake_row, reply_row, session_code, session_row, word_row}
use Rattle.sql_rows.specs.Image.{IsImage}

pub flag_back : (b : Bool) → flag_in (number (flag b)) ≡ b
flag_back true = refl
flag_back false = refl

pub record_state_back : (s : RecordState) → record_state_of_code (record_code s) ≡ s
record_state_back rec.Waiting = refl
record_state_back rec.Running = refl
record_state_back rec.Failed = refl
record_state_back rec.Withdrawn = refl
record_state_back rec.Good = refl

pub session_state_back : (s : SessionState) → session_state_of_code (session_code s) ≡ s
session_state_back session.Running = refl
session_state_back session.Good = refl
session_state_back session.Spoiled = refl

pub enc_back : (e : Enc) → enc_of_code (enc_code e) ≡ e
enc_back enc.Plain = refl
enc_back enc.All = refl
enc_back enc.Mixed = refl

pub product_back : (p : Product) → product_of (product_row p) ≡ p
product_back p = rw (flag_back p.check) refl

pub batch_back : (b : StoredBatch) → batch_of (batch_row b) ≡ b
batch_back b = rw (flag_back b.closed) refl

pub record_back : (r : StoredRecord) → record_of (record_row r) ≡ r
record_back r = rw (record_state_back r.state) refl

pub grouping_back : (g : StoredGrouping) → grouping_of (grouping_row g) ≡ g
grouping_back g = rw (enc_back g.enc, flag_back g.tol) refl

pub session_back : (s : StoredSession) → session_of (session_row s) ≡ s
session_back s = rw (session_state_back s.state, flag_back s.ended) refl

pub blank_back : (b : StoredBlank) → blank_of (blank_row b) ≡ b
blank_back b = rw (flag_back b.discarded) refl

module _ {X : Type 0} (encode : X → Row) (decode : Row → X) (back : (x : X) → decode (encode x) ≡ x) where
  decoded : (xs : List X) → map decode (map encode xs) ≡ xs
  decoded [] = refl
  decoded (x ∷ xs) = rw (back x, decoded xs) refl

  -- Two lists that encode to the same rows have the same elements.
  pub same_typed : (xs ys : List X) (rows : List Row) → IsPermutation (map encode xs) rows → IsPermutation (map encode ys) rows → IsPermutation xs ys
  same_typed xs ys rows one two =
      subst (λ zs. IsPermutation zs ys) (decoded xs) (subst (IsPermutation (map decode (map encode xs))) (decoded ys)
      (IsPermutation-map decode (map encode xs) (map encode ys) (IsPermutation-trans _ _ _ one (IsPermutation-sym _ _ two))))

pub one_image : (t u : Tables) (db : Database) → IsImage t db → IsImage u db → HaveSameRows t u
one_image t u db one two =
    let a = one.each.1 in
    let b = two.each.1 in
    record {
      products = same_typed product_row product_of product_back _ _ _ a.0.rows b.0.rows;
      lots = same_typed lot_row lot_of (λ l. refl) _ _ _ a.1.0.rows b.1.0.rows;
      batches = same_typed batch_row batch_of batch_back _ _ _ a.1.1.0.rows b.1.1.0.rows;
      records = same_typed record_row record_of record_back _ _ _ a.1.1.1.0.rows b.1.1.1.0.rows;
      groupings = same_typed grouping_row grouping_of grouping_back _ _ _ a.1.1.1.1.0.rows b.1.1.1.1.0.rows;
      sessions = same_typed session_row session_of session_back _ _ _ a.1.1.1.1.1.0.rows b.1.1.1.1.1.0.rows;
      words = same_typed word_row word_of (λ w. refl) _ _ _ a.1.1.1.1.1.1.0.rows b.1.1.1.1.1.1.0.rows;
      blanks = same_typed blank_row blank_of blank_back _ _ _ a.1.1.1.1.1.1.1.0.rows b.1.1.1.1.1.1.1.0.rows;
      remakes = same_typed remake_row remake_of (λ r. refl) _ _ _ a.1.1.1.1.1.1.1.1.0.rows b.1.1.1.1.1.1.1.1.0.rows;
      replies = same_typed reply_row reply_of (λ e. refl) _ _ _ a.1.1.1.1.1.1.1.1.1.0.rows b.1.1.1.1.1.1.1.1.1.0.rows;
      marks = same_typed mark_row mark_of (λ m. refl) _ _ _ a.1.1.1.1.1.1.1.1.1.1.0.rows b.1.1.1.1.1.1.1.1.1.1.0.rows;
    }
