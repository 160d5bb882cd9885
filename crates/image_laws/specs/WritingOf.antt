-- The writing for a change, which depends on the facts before it.
use Rattle.std.specs.Prelude.{◌≡◌, ℕ, List, count_by, Some}
use Rattle.job_facts.specs.declared.change.Change.{Change}
use Rattle.job_facts.specs.declared.change.Change.TheVariants as change
use Rattle.job_facts.specs.declared.change.NewWord.{NewWord}
use Rattle.job_facts.specs.declared.facts.Lot.{Lot}
use Rattle.job_facts.specs.declared.facts.SessionState.{SessionState}
use Rattle.job_facts.specs.declared.facts.SessionState.TheVariants as session
use Rattle.job_facts.specs.Accounts.{batch_totals}
use Rattle.job_facts.specs.Facts.{Facts, Session}
use Rattle.job_facts.specs.States.{is_spoiled, lot_named, records_named, remakes_of, session_numbered, states_of}
use Rattle.step_laws.specs.Sums.{discarded_in}
use Rattle.table_rows.specs.declared.writing.RecordPlace.{RecordPlace}
use Rattle.table_rows.specs.declared.writing.Writing.{Writing}
use Rattle.table_rows.specs.declared.writing.Writing.TheVariants as writing
use Rattle.image_laws.specs.Image.{batch_id, place_in}

-- Record `r` of batch `b` is at the place `p`, which has its counts and the counters of its batch.
pub record IsPlaceOf (f : Facts) (b r : List ℕ) (p : RecordPlace) : Type 0 where
  pub batch : p.batch ≡ batch_id f.batches b
  pub place : p.place ≡ place_in (records_named f b) r
  pub spoiled : p.spoiled ≡ count_by is_spoiled (states_of f b r)
  pub remakes : p.remakes ≡ remakes_of f b r
  pub totals : p.totals ≡ batch_totals f b

-- The record of session `s` is at the place `p`.
abbrev pub IsPlaceOfSession : Facts → ℕ → RecordPlace → Type 0
IsPlaceOfSession f s p = (x : Session) × (session_numbered f.sessions s ≡ Some x) × IsPlaceOf f x.batch x.rec p

-- The lot with the name `lot` has `n` discarded blanks.
abbrev pub AreDiscardedOf : Facts → List ℕ → ℕ → Type 0
AreDiscardedOf f lot n = (l : Lot) × (lot_named f.lots lot ≡ Some l) × (n ≡ discarded_in f l)

-- ---- writings with the place of a record

-- `w` is the writing that `by` makes of the place of record `r` of batch `b`.
abbrev pub IsOfRecord : Facts → List ℕ → List ℕ → (RecordPlace → Writing) → Writing → Type 0
IsOfRecord f b r by w = (p : RecordPlace) × IsPlaceOf f b r p × (w ≡ by p)

-- `w` is the writing for the status word `word`. If the session is still running, only the status
-- word is needed, and otherwise also the place of its record.
abbrev pub IsOfWord : Facts → List ℕ → List ℕ → NewWord → SessionState → Writing → Type 0
IsOfWord f b r word session.Running w = w ≡ writing.AddsWord word
IsOfWord f b r word session.Good w = IsOfRecord f b r (writing.AddsLastWord word session.Good) w
IsOfWord f b r word session.Spoiled w = IsOfRecord f b r (writing.AddsLastWord word session.Spoiled) w

-- ---- all changes

-- `w` is the writing for the change.
abbrev pub IsWritingOf : Facts → Change → Writing → Type 0
IsWritingOf f change.Nothing w = w ≡ writing.Nothing
IsWritingOf f (change.AddsProduct p) w = w ≡ writing.AddsProduct p
IsWritingOf f (change.AddsLot l) w = w ≡ writing.AddsLot l
IsWritingOf f (change.AddsBatch b) w = w ≡ writing.AddsBatch b
IsWritingOf f (change.Opens s b r) w = IsOfRecord f b r (writing.Opens s) w
IsWritingOf f (change.AddsWord word b r stands) w = IsOfWord f b r word stands w
IsWritingOf f (change.Ends s) w = (p : RecordPlace) × IsPlaceOfSession f s p × (w ≡ writing.Ends s p)
IsWritingOf f (change.Discards blank lot) w = (n : ℕ) × AreDiscardedOf f lot n × (w ≡ writing.Discards blank lot n)
IsWritingOf f (change.Remakes b r) w = IsOfRecord f b r writing.Remakes w
IsWritingOf f (change.Withdraws b r was) w = IsOfRecord f b r (writing.Withdraws was) w
IsWritingOf f (change.Closes b) w = w ≡ writing.Closes b
