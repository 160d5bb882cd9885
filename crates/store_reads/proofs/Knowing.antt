-- Lemmas: the cache agrees with the database after a read and after a write, and also after a
-- record that was read is added.
use Rattle.std.proofs.Common.{◌≡◌, ◌⊎◌, ℕ, inl, inr, true, List, All, Contains, Some, IfSome, sym, subst, arith}
use Rattle.std.proofs.Math.Logic.{∥∥₁_map}
use Rattle.std.proofs.lemmas.List.Elements.{All-contains, All-contains_itself, All-weaker}
use Rattle.sqlite.specs.State.{HasCleanDisk, State}
use Rattle.job_facts.specs.Contents.{Entry}
use Rattle.table_rows.specs.After.{rows_written}
use Rattle.table_rows.specs.Tables.{Tables}
use Rattle.table_rows.specs.declared.writing.Writing.{Writing}
use Rattle.sql_rows.specs.Image.{IsImage}
use Rattle.row_reads.specs.declared.records.RecordAt.{RecordAt}
use Rattle.row_reads.specs.Reads.{Looks}
use Rattle.store_reads.specs.declared.known.Known.{Known}
use Rattle.store_reads.specs.declared.known.KnownRecord.{KnownRecord}
use Rattle.store_reads.specs.declared.known.StandingRecord.{StandingRecord}
use Rattle.store_reads.specs.Fixed.{AreNamedApart, fixed, leaves_fixed}
use Rattle.store_reads.specs.Counted.{AreCountersIn}
use Rattle.store_reads.specs.Known.{AreKnownIn, HasKnown, IsAllKnownIn, IsKnownIn, Knows, IsStandingIn, known_counters, known_records, standing_record}
use Rattle.store_reads.proofs.Fixing.{written_fixed}
use Rattle.store_reads.proofs.ReadContents.{ShowsRows}

pub known_after : (w : Writing) (entry : Entry) (t : Tables) (records : List KnownRecord) → leaves_fixed w ≡ true → AreKnownIn t records → AreKnownIn (rows_written w entry t) records
known_after w entry t records leaves known = subst (λ x. AreNamedApart x → All (IsKnownIn x) records) (sym (written_fixed w entry t leaves)) known

pub knows_after : (a b : State) (known : Known) → Looks a b → Knows a known → Knows b known
knows_after a b known looks knows clean live =
    let k = looks.kept clean in
    subst (λ db. HasKnown db known) (sym (k.now_is live)) (knows (omega (arith, clean, looks.survives.clean)) (k.was_open live))

-- adds a record that was read from the rows as they were
pub knows_more : (a b c : State) (old new : Known) (read : KnownRecord) → Looks a b → Looks b c
    → (HasCleanDisk b → ShowsRows a (λ t. AreNamedApart (fixed t) → IsAllKnownIn t old → IsKnownIn (fixed t) read)) → Knows a old
    → ((k : KnownRecord) → Contains (known_records new) k → (k ≡ read) ⊎ Contains (known_records old) k) → standing_record new ≡ standing_record old → known_counters new ≡ known_counters old → Knows c new
knows_more a b c old new read one two shows knows each same counters clean live =
    let early : HasCleanDisk b = omega (arith, clean, two.survives.clean) in
    let first : HasCleanDisk a = omega (arith, early, one.survives.clean) in
    let k = two.kept clean in
    let j = one.kept early in
    let mid = k.was_open live in
    record {
      rows = ∥∥₁_map (knows first (j.was_open mid)).rows (λ it. (
        it.0,
        subst (IsImage it.0) (sym (k.now_is live)) (subst (IsImage it.0) (sym (j.now_is mid)) it.1),
        record {
          records = λ apart. All-weaker (Contains (known_records new)) (IsKnownIn (fixed it.0))
              (λ x there. elim (each x there) [
                | inl same ↦ subst (IsKnownIn (fixed it.0)) (sym same) ((shows early).1 it.0 it.1 apart it.2)
                | inr before ↦ All-contains (IsKnownIn (fixed it.0)) (known_records old) x (it.2.records apart) before
              ])
              (known_records new) (All-contains_itself (known_records new));
          standing = λ apart. subst (λ o. IfSome o (IsStandingIn it.0)) (sym same) (it.2.standing apart);
          counted = subst (All (AreCountersIn it.0)) (sym counters) it.2.counted;
        },
      ));
    }

-- replaces the cached state of a record
pub knows_standing : (a b : State) (old new : Known) (id : ℕ) (card : RecordAt) → Looks a b → (HasCleanDisk b → ShowsRows a (λ t. AreNamedApart (fixed t) → IsStandingIn t (let s : StandingRecord = record { batch = id; card = card } in s)))
    → Knows a old → known_records new ≡ known_records old → standing_record new ≡ Some (let s : StandingRecord = record { batch = id; card = card } in s) → known_counters new ≡ known_counters old → Knows b new
knows_standing a b old new id card looks shows knows same is counters clean live =
    let k = looks.kept clean in
    let early : HasCleanDisk a = omega (arith, clean, looks.survives.clean) in
    record {
      rows = ∥∥₁_map (knows early (k.was_open live)).rows (λ it. (
        it.0,
        subst (IsImage it.0) (sym (k.now_is live)) it.1,
        record {
          records = subst (AreKnownIn it.0) (sym same) it.2.records;
          standing = λ apart. subst (λ o. IfSome o (IsStandingIn it.0)) (sym is) ((shows clean).1 it.0 it.1 apart);
          counted = subst (All (AreCountersIn it.0)) (sym counters) it.2.counted;
        },
      ));
    }
