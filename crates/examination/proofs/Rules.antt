-- The order of rows, and the audit rules, don't depend on the bytes of replies.
use Rattle.std.proofs.Common.{◌≡◌, List, [], ◌∷◌, false, map, slice_index_or, IsTrue}
use Rattle.std.specs.Prelude.{All}
use Rattle.std.proofs.lemmas.List.Elements.{All-map}
use Rattle.job_facts.specs.Contents.{Entry, IsEntry, is_above, is_of_number}
use Rattle.table_rows.specs.Tables.{StoredBatch, StoredBlank, StoredRecord, StoredSession, Tables}
use Rattle.audit_laws.specs.Audited.{IsAuditedBatch, IsAuditedBlank, IsAuditedRecord, IsAuditedSession}
use Rattle.audit_order.specs.Order.{AreSorted}
use Rattle.audit_cards.specs.Sessions.{IsAuditedFile}
use Rattle.audit_rows.specs.Rules.{AllHold, FailsFirst, Holds, rules}
use Rattle.audit_rows.specs.declared.rule.Rule.{Rule}
use Rattle.audit_rows.specs.declared.rule.Rule.TheVariants.{BlankLots, Files, ReleasedReplies, Replies, ReplyTwice}
use Rattle.table_reads.specs.Unread.{without_bytes, without_reply_bytes}
use Rattle.examination.proofs.Unread.{All-from_map, AllPairs-from_map, AllPairs-map, entry_is, is_entry}

-- ---- rows with other replies

each : {X : Type 0} (P Q : X → Type 0) (xs : List X) → ((x : X) → P x → Q x) → All P xs → All Q xs
each P Q xs f all k d low = f (slice_index_or xs k d) (all k d low)

-- The rows of `t`, with other replies, are cards and blanks as before.
module _ (t : Tables) (es : List Entry) where
  abbrev others : Tables
  others = record t { replies = es }

  session_is : (s : StoredSession) → IsAuditedSession t s → IsAuditedSession others s
  session_is s a = search

  record_is : (r : StoredRecord) → IsAuditedRecord t r → IsAuditedRecord others r
  record_is r a = search

  batch_is : (b : StoredBatch) → IsAuditedBatch t b → IsAuditedBatch others b
  batch_is b a = search

  file_is : (b : StoredBatch) → IsAuditedFile t b → IsAuditedFile others b
  file_is b a = record {
    batch = a.batch;
    records = a.records;
    groupings = a.groupings;
    each_record = λ k d low. record_is _ (a.each_record k d low);
    each_session = λ k d low. session_is _ (a.each_session k d low);
    counts = batch_is b a.counts;
  }

  blank_is : (b : StoredBlank) → IsAuditedBlank t b → IsAuditedBlank others b
  blank_is b a = search

-- ---- the rules

module _ (t : Tables) where
  abbrev brief : Tables
  brief = without_reply_bytes t

  holds_brief : (rule : Rule) → Holds rule t → Holds rule brief
  holds_brief Files h = each (IsAuditedFile t) (IsAuditedFile brief) t.batches (file_is t (map without_bytes t.replies)) h
  holds_brief BlankLots h = each (IsAuditedBlank t) (IsAuditedBlank brief) t.blanks (blank_is t (map without_bytes t.replies)) h
  holds_brief Replies h = All-map IsEntry without_bytes t.replies (each IsEntry (λ e. IsEntry (without_bytes e)) t.replies is_entry h)
  holds_brief ReleasedReplies h = All-map (λ e. IsTrue (is_above t.marks e)) without_bytes t.replies h
  holds_brief ReplyTwice h = AllPairs-map without_bytes (λ d e. is_of_number d e ≡ false) t.replies h
  holds_brief _ h = h

  holds_whole : (rule : Rule) → Holds rule brief → Holds rule t
  holds_whole Files h = each (IsAuditedFile brief) (IsAuditedFile t) t.batches (file_is brief t.replies) h
  holds_whole BlankLots h = each (IsAuditedBlank brief) (IsAuditedBlank t) t.blanks (blank_is brief t.replies) h
  holds_whole Replies h = each (λ e. IsEntry (without_bytes e)) IsEntry t.replies entry_is (All-from_map without_bytes IsEntry t.replies h)
  holds_whole ReleasedReplies h = All-from_map without_bytes (λ e. IsTrue (is_above t.marks e)) t.replies h
  holds_whole ReplyTwice h = AllPairs-from_map without_bytes (λ d e. is_of_number d e ≡ false) t.replies h
  holds_whole _ h = h

  all_whole : (some : List Rule) → AllHold some brief → AllHold some t
  all_whole [] held = tt
  all_whole (rule ∷ more) held = (holds_whole rule held.0, all_whole more held.1)

  pub fails_whole : (rule : Rule) → FailsFirst rules brief rule → FailsFirst rules t rule
  fails_whole rule f = record {
    before = f.before;
    after = f.after;
    place = f.place;
    hold = all_whole f.before f.hold;
    fails = λ h. f.fails (holds_brief rule h);
  }

  pub sorted_whole : AreSorted brief → AreSorted t
  sorted_whole s = assumption
