-- The image of sound contents passes the audit.
use Rattle.std.proofs.Common.{◌≡◌, ◌∷◌, [], subst, sym}
use Rattle.std.proofs.lemmas.List.Sorted.{IsPermutation-sym}
use Rattle.job_facts.specs.Contents.{AreSound, Contents}
use Rattle.job_facts.specs.Sound.{AreBatches}
use Rattle.table_rows.specs.Tables.{HaveSameRows, StoredBatch, StoredGrouping, StoredRecord, StoredRemake, StoredSession, StoredWord, Tables}
use Rattle.image_laws.specs.Image.{image, stored_batches, stored_groupings, stored_records, stored_remakes, stored_sessions, stored_words}
use Rattle.audit_laws.specs.Audited.{AreInOrder, IsAudited}
use Rattle.audit_laws.proofs.AuditedBlanks as blanks
use Rattle.audit_laws.proofs.AuditedCounts as counted
use Rattle.audit_laws.proofs.AuditedFiles as files
use Rattle.audit_laws.proofs.ImageKeys as keys
use Rattle.audit_laws.proofs.AuditedMoved.{audited_moved}
use Rattle.audit_laws.proofs.InOrder.{in_order}
use Rattle.audit_laws.proofs.AuditedSessions as sessions

pub image_is_audited : (c : Contents) → AreSound c → IsAudited (image c)
image_is_audited c sound =
    let of = sound.facts in
    record {
      products = of.named.products;
      lots = blanks.lots_back c of;
      batches = subst (AreBatches c.facts.products) (sym (files.batches_back c)) of.named.batches;
      batch_ids = files.batch_ids c;
      records = files.records_filed c;
      groupings = files.groupings_filed c;
      session_ids = files.session_ids c;
      words = files.words_placed c;
      each_session = sessions.sessions_audited c of;
      machines = sessions.machines_audited c of;
      each_record = counted.records_audited c of;
      remakes = files.remakes_turned c;
      each_batch = counted.batches_audited c of;
      each_lot = blanks.lots_audited c of;
      blanks_once = blanks.blanks_apart c of;
      each_blank = blanks.blanks_audited c of;
      opened = blanks.opened_audited c of;
      kept = sound.kept;
      kept_once = sound.kept_once;
      marks = sound.marks;
      marked_once = sound.marked_once;
      above = sound.above;
    }

module _ (c : Contents) (t : Tables) (sound : AreSound c) (ordered : AreInOrder t) (same : HaveSameRows t (image c)) where
  batches : stored_batches c.facts ≡ t.batches
  batches = sym (in_order (λ (b : StoredBatch). b.id ∷ []) t.batches _ same.batches ordered.batches (keys.batches_below c.facts))

  records : stored_records c.facts ≡ t.records
  records =
      sym (in_order (λ (r : StoredRecord). r.batch ∷ r.place ∷ []) t.records _ same.records ordered.records (keys.records_below c.facts))

  groupings : stored_groupings c.facts ≡ t.groupings
  groupings =
      sym (in_order (λ (g : StoredGrouping). g.batch ∷ g.line ∷ []) t.groupings _ same.groupings
      ordered.groupings (keys.groupings_below c.facts))

  sessions_are : stored_sessions c.facts ≡ t.sessions
  sessions_are = sym (in_order (λ (s : StoredSession). s.id ∷ []) t.sessions _ same.sessions ordered.sessions (keys.sessions_below c.facts))

  words : stored_words c.facts ≡ t.words
  words = sym (in_order (λ (w : StoredWord). w.session ∷ w.place ∷ []) t.words _ same.words ordered.words (keys.words_below c.facts))

  remakes : stored_remakes c.facts ≡ t.remakes
  remakes =
      sym (in_order (λ (r : StoredRemake). r.batch ∷ r.place ∷ r.turn ∷ []) t.remakes _ same.remakes
      ordered.remakes (keys.remakes_below c.facts))

  pub rows_audited : IsAudited t
  rows_audited =
      let in_image = image_is_audited c sound in
      let products = IsPermutation-sym _ _ same.products in
      let lots = IsPermutation-sym _ _ same.lots in
      let charged = IsPermutation-sym _ _ same.blanks in
      let replies = IsPermutation-sym _ _ same.replies in
      let marks = IsPermutation-sym _ _ same.marks in
      subst IsAudited (λ i. record {
        products = t.products;
        lots = t.lots;
        batches = batches i;
        records = records i;
        groupings = groupings i;
        sessions = sessions_are i;
        words = words i;
        blanks = t.blanks;
        remakes = remakes i;
        replies = t.replies;
        marks = t.marks;
      }) (audited_moved (image c) in_image t.products t.lots t.blanks t.replies t.marks products lots charged replies marks)
