-- The sessions in the contents of audited rows are sound.
use Rattle.std.proofs.Common.{◌≡◌, ◌≢◌, ℕ, zero, suc, ◌+◌, ◌≤◌, ◌==◌, ◌&&◌, Bool, true, not, cond, List, [], ◌∷◌, ◌++◌, map, get_or, All, Some, refl, sym, ap, subst, ◌∙◌, arith}
use Rattle.std.specs.Prelude.{AllPairs, IsSome, bytes_eq, count_by, slice_get, sum_by}
use Rattle.std.specs.List.{list_any}
use Rattle.std.proofs.lemmas.Bool.{both_ways, or_left, or_right}
use Rattle.std.proofs.lemmas.List.Elements.{All-append, All-filter, All-map, All-weaker}
use Rattle.std.proofs.lemmas.List.Filters.{sum_by-filter_both}
use Rattle.std.proofs.lemmas.List.Sums.{sum_by-append}
use Rattle.std.proofs.lemmas.Option.{none-some, same_Some}
use Rattle.std.proofs.lemmas.Simd.{map-map}
use Rattle.store_data.proofs.GroupLemmas.{bytes_eq-same}
use Rattle.store_data.proofs.PieceLemmas.{sum_by-map}
use Rattle.job_facts.specs.Facts.{Facts, Session}
use Rattle.job_facts.specs.Sound.{AreNamed, AreSessions, AreWords, IsRecord, IsSession, charges, runs_on}
use Rattle.job_facts.specs.States.{batch_named, is_running, lot_of, records_named, records_under}
use Rattle.job_facts.proofs.Lists.{map_same}
use Rattle.step_laws.proofs.Permuted.{at_most_one, count_moved}
use Rattle.table_rows.specs.Tables.{StoredBlank, StoredRecord, StoredSession, Tables}
use Rattle.image_laws.specs.Decided.{batch_name, batch_of_row, discarded_rows, facts_of, record_name}
use Rattle.table_rows.specs.Keys.{is_running_on}
use Rattle.row_laws.proofs.Finding.{once_from_count}
use Rattle.audit_laws.specs.Audited.{IsAudited, IsAuditedBlank, IsAuditedSession, file_records, key_of, named_session, opened_rows, words_of}
use Rattle.audit_laws.proofs.Agreeing.{SessionAgrees}
use Rattle.audit_laws.proofs.SoundLists.{differs, equal, same_number}
use Rattle.audit_laws.proofs.SoundNames.{IsPlaced, are_batches, key_found, name_found, named_found, of_batch}
use Rattle.audit_laws.proofs.SoundSessions.{batch_is, batch_there, commands_are, rec_is, rec_placed, sessions_agree, sessions_are}

-- A list contains the name at index `k`.
named_among : (names : List (List ℕ)) (k : ℕ) (n : List ℕ) → slice_get names k ≡ Some n → list_any (bytes_eq n) names ≡ true
named_among [] k n at = absurd (none-some n at)
named_among (m ∷ names) zero n at =
    or_left (bytes_eq n m) (list_any (bytes_eq n) names) (ap (bytes_eq n) (same_Some m n at) ∙ bytes_eq-same n)
named_among (m ∷ names) (suc k) n at = or_right (bytes_eq n m) (list_any (bytes_eq n) names) (named_among names k n at)

count_same : {X : Type 0} (p q : X → Bool) (xs : List X) → All (λ x. p x ≡ q x) xs → count_by p xs ≡ count_by q xs
count_same p q xs same =
    let one : Bool → ℕ = λ b. cond {A = ℕ} b 1 0 in
    sym (sum_by-map one p xs) ∙ ap (sum_by one) (map_same p q xs same) ∙ sum_by-map one q xs

module _ (t : Tables) (audited : IsAudited t) where
  abbrev f : Facts
  f = facts_of t

  pub are_named : AreNamed f
  are_named = record { products = audited.products; lots = audited.lots; batches = are_batches t audited }

  -- The batch of row `r` contains its record.
  pub record_there : (r : StoredRecord) → IsPlaced t (key_of r) → IsRecord f (batch_name t r.batch) r.name
  record_there r at =
      let named =
      of_batch t audited (λ b. batch_named f.batches b.name ≡ Some (batch_of_row b)) r.batch at.batch (named_found t audited) at.batch_is in
      let own : records_named f (batch_name t r.batch) ≡ file_records t at.batch =
      ap (records_named f) (name_found t audited r.batch at.batch at.batch_is) ∙ ap (records_under t.products) named in
      ap (list_any (bytes_eq r.name)) own ∙ named_among (file_records t at.batch) r.place r.name at.name_is

  -- ---- sessions

  module _ (s : StoredSession) (is : IsAuditedSession t s) where
    session_record : IsRecord f (batch_name t s.batch) (record_name t s.batch s.place)
    session_record =
        let key = key_found t audited s.batch s.place is.rec is.rec_is in
        subst (IsRecord f (batch_name t s.batch)) (sym (rec_is t audited s is))
        (subst (λ id. IsRecord f (batch_name t id) is.rec.name) key.0 (record_there is.rec (rec_placed t audited s is)))

    session_sound : IsSession f (named_session t s)
    session_sound = record {
      machine = is.machine;
      there = session_record;
      batch = batch_of_row is.batch;
      batch_is = ap (batch_named f.batches) (batch_is t audited s is) ∙ batch_there t audited s is;
      lot = is.lot;
      lot_is = is.lot_is;
      product = is.fits;
      words = subst (λ commands. AreWords commands (words_of t.words s.id)) (sym (commands_are t audited s is)) is.words;
    }

  each : All (IsSession f) f.sessions
  each =
      subst (All (IsSession f)) (sym (sessions_are t audited))
      (All-map (IsSession f) (named_session t) t.sessions
      (λ k d within. session_sound (get_or t.sessions k d) (audited.each_session k d within)))

  machines : (machine : List ℕ) → count_by (runs_on f machine) f.sessions ≤ 1
  machines machine =
      let named : StoredSession → Session = named_session t in
      let runs : (s : StoredSession) → SessionAgrees t s → runs_on f machine (named s) ≡ is_running_on machine s =
      λ s agrees. ap (λ state. bytes_eq s.machine machine && is_running state) agrees.state in
      let same : count_by (runs_on f machine) f.sessions ≡ count_by (is_running_on machine) t.sessions =
      ap (count_by (runs_on f machine)) (sessions_are t audited)
      ∙ sum_by-map (λ x. cond {A = ℕ} (runs_on f machine x) 1 0) named t.sessions
      ∙ count_same (λ s. runs_on f machine (named s)) (is_running_on machine) t.sessions
      (All-weaker (SessionAgrees t) (λ s. runs_on f machine (named s) ≡ is_running_on machine s) runs t.sessions
      (sessions_agree t audited)) in
      omega (arith, same, audited.machines machine)

  -- ---- charged blanks

  abbrev serial : StoredBlank → ℕ
  serial b = b.serial

  abbrev opened : List ℕ
  opened = map (λ (s : StoredSession). s.serial) t.sessions

  charges_are : charges f ≡ opened ++ map serial (discarded_rows t.blanks)
  charges_are =
      let blank : Session → ℕ = λ s. s.blank in
      ap (λ ss. map blank ss ++ f.discarded) (sessions_are t audited)
      ∙ ap (λ bs. bs ++ f.discarded) (map-map blank (named_session t) t.sessions)

  -- Each serial is charged as often as it occurs in the rows.
  charges_counted : (z : ℕ) → count_by (λ a. a == z) (charges f) ≡ count_by (λ (b : StoredBlank). b.serial == z) t.blanks
  charges_counted z =
      let one : ℕ → ℕ = λ a. cond {A = ℕ} (a == z) 1 0 in
      let out : List StoredBlank = discarded_rows t.blanks in
      let in_use : List StoredBlank = opened_rows t.blanks in
      let moved : count_by (λ a. a == z) (map serial in_use) ≡ count_by (λ a. a == z) opened =
      count_moved (λ a. a == z) (map serial in_use) opened audited.opened in
      let all : sum_by one (charges f) ≡ sum_by one opened + sum_by one (map serial out) =
      ap (sum_by one) charges_are ∙ sum_by-append one opened (map serial out) in
      let both = sum_by-filter_both (λ (b : StoredBlank). b.discarded) (λ b. not b.discarded) (λ b. refl) (λ b. one b.serial) t.blanks in
      omega (arith, moved, all, both, sum_by-map one serial out, sum_by-map one serial in_use)

  charges_few : (z : ℕ) → count_by (λ a. a == z) (charges f) ≤ 1
  charges_few z =
      let few = at_most_one (λ (b : StoredBlank). b.serial == z) t.blanks
      (λ i j d before within hit. differs _ z (λ same. audited.blanks_once i j d before within (same_number _ z hit ∙ sym same))) in
      omega (arith, few, charges_counted z)

  charged_once : AllPairs (λ a b. a ≢ b) (charges f)
  charged_once i j d before within same =
      let a : ℕ = get_or (charges f) i d in
      let b : ℕ = get_or (charges f) j d in
      both_ways (b == a) (once_from_count (λ x. x == a) (charges f) (charges_few a) i j d before within (equal a a refl))
      (equal b a (sym same))

  abbrev HasLot : ℕ → Type 0
  HasLot blank = IsSome (lot_of f.lots blank)

  charged_lots : All HasLot (charges f)
  charged_lots =
      subst (All HasLot) (sym charges_are)
      (All-append HasLot opened (map serial (discarded_rows t.blanks))
      (All-map HasLot (λ (s : StoredSession). s.serial) t.sessions
      (All-weaker (IsAuditedSession t) (λ s. HasLot s.serial)
      (λ s is. subst (λ o. IsSome o) (sym is.lot_is) refl) t.sessions audited.each_session))
      (All-map HasLot serial (discarded_rows t.blanks) (All-filter (λ b. b.discarded) (λ b. HasLot b.serial) t.blanks
      (All-weaker (IsAuditedBlank t) (λ b. HasLot b.serial)
      (λ b is. subst (λ o. IsSome o) (sym is.lot_is) refl) t.blanks audited.each_blank))))

  pub are_sessions : AreSessions f
  are_sessions = record { each = each; machines = machines; charged_once = charged_once; charged_lots = charged_lots }
