-- Sound facts are sound after any request in its ranges, and the number of their sessions is
-- limited.
use Rattle.std.proofs.Common.{◌≡◌, ◌≢◌, ◌≤◌, ◌==◌, ℕ, true, cond, List, [], ◌∷◌, length, length-append, map, All, Some, sym, ap, ◌∙◌, subst, inl, inr, arith}
use Rattle.std.specs.Prelude.{AllPairs, IsSome, is_some, sum_by}
use Rattle.std.specs.List.{flat_map}
use Rattle.std.specs.Cmp.{nat_eq_equiv}
use Rattle.std.proofs.lemmas.Bool.{cases_Bool, eqb-true, false≢true, or_cases}
use Rattle.std.proofs.lemmas.Bool.Decides.{Decides-eqb}
use Rattle.std.proofs.lemmas.List.{length-map}
use Rattle.std.proofs.lemmas.List.Elements.{All-head, All-tail, All-weaker}
use Rattle.std.proofs.lemmas.List.Sums.{sum_by-le}
use Rattle.std.proofs.lemmas.Map.Made.{IsDistinct-from_AllPairs, length-le_from_is_member}
use Rattle.batch_import.proofs.RangedRows.{batch_typed}
use Rattle.job_facts.specs.declared.facts.Lot.{Lot}
use Rattle.job_facts.specs.declared.request.Request.{Request}
use Rattle.job_facts.specs.Facts.{Facts, Session}
use Rattle.job_facts.specs.Sound.{IsLot, IsName, IsSound, charges}
use Rattle.job_facts.specs.States.{is_in, lot_of}
use Rattle.job_facts.specs.Steps.{step}
use Rattle.job_facts.proofs.SoundFacts.{sound_batch, sound_close, sound_discard, sound_lot, sound_product, sound_remake, sound_withdraw}
use Rattle.job_facts.proofs.SoundSessions.{sound_end, sound_open, sound_word}
use Rattle.job_facts.proofs.Serials.{has, has_first, has_later, length-all, serials_of}
use Rattle.step_laws.specs.Ranges.{IsRanged}
use Rattle.step_laws.proofs.StepCases.{facts_by, named_batch}

pub step_sound : (f : Facts) (client : List ℕ) (r : Request) → IsSound f → IsName client → IsRanged r → IsSound (step f client r).0
step_sound f client r sound name ranged =
    facts_by f client (λ r g. IsRanged r → IsSound g)
    (record {
      stays = λ r ranged. sound;
      product = λ p new few ranged. sound_product f p sound new few ranged.1 ranged.0;
      lot = λ l p new there apart few ranged. sound_lot f l p sound new there apart few ranged.0 ranged.2.least ranged.2.most ranged.2.range;
      batch = λ b p raw kept rows new there few read ranged.
          sound_batch f (named_batch b p raw) kept rows sound new there read (batch_typed kept raw rows read).1 few ranged.0;
      opens = λ b blank r is ranged.
          sound_open f client b r blank is.batch is.lot sound name is.there is.more is.idle is.lot_is is.same is.free is.waits;
      word = λ s k sw x own turn ranged. sound_word f s sw x sound own.there own.runs ranged.3;
      ends = λ r s x own why ranged. sound_end f s x sound own.there own.runs;
      discard = λ blank l there free ranged. sound_discard f blank l sound there free;
      remake = λ b r more failed ranged. sound_remake f b r sound more failed;
      withdraw = λ b r failed more stands ranged. sound_withdraw f b r failed sound more stands;
      close = λ b batch more there done ranged. sound_close f b batch sound more there done;
    }) r ranged

-- ---- the serials of lots

among_serials : (lots : List Lot) (q : ℕ) → IsSome (lot_of lots q) → has (flat_map serials_of lots) q ≡ true
among_serials [] q some = absurd (false≢true some)
among_serials (l ∷ lots) q some = elim (cases_Bool (is_in q l)) [
  | inl inside ↦ has_first q l lots inside
  | inr outside ↦ has_later q l lots (among_serials lots q (sym (ap (λ b. is_some (cond b (Some l) (lot_of lots q))) outside) ∙ some))
]

-- If a property is true of all elements, it is true of each of them.
has_holds : (P : ℕ → Type 0) (xs : List ℕ) (q : ℕ) → All P xs → has xs q ≡ true → P q
has_holds P [] q each there = absurd (false≢true there)
has_holds P (x ∷ xs) q each there = elim (or_cases (q == x) (has xs q) there) [
  | inl here ↦ subst P (sym (eqb-true q x here)) (All-head P x xs each)
  | inr later ↦ has_holds P xs q (All-tail P x xs each) later
]

-- Blanks that are charged once and are all in these lots are at most as many as the blanks of the
-- lots.
pub few_in_lots : (lots : List Lot) (blanks : List ℕ) → AllPairs (λ a b. a ≢ b) blanks → All (λ blank. IsSome (lot_of lots blank)) blanks
    → length blanks ≤ sum_by (λ (l : Lot). l.count) lots
few_in_lots lots blanks once each =
    let distinct = IsDistinct-from_AllPairs Decides-eqb blanks once in
    let inside : (q : ℕ) → has blanks q ≡ true → has (flat_map serials_of lots) q ≡ true =
    λ q there. among_serials lots q (has_holds (λ blank. IsSome (lot_of lots blank)) blanks q each there) in
    omega (arith, length-le_from_is_member nat_eq_equiv blanks (flat_map serials_of lots) distinct inside, length-all lots)

-- Each session has its own blank, and there are at most 4,096 lots with 1,000,000 blanks each.
pub few_sessions : (f : Facts) → IsSound f → length f.sessions ≤ 4096000000
few_sessions f sound =
    let blanks = map (λ (s : Session). s.blank) f.sessions in
    let charged = few_in_lots f.lots (charges f) sound.sessions.charged_once sound.sessions.charged_lots in
    let most : All (λ (l : Lot). l.count ≤ 1000000) f.lots =
    All-weaker (IsLot f.products) (λ (l : Lot). l.count ≤ 1000000) (λ l is. is.most) f.lots sound.named.lots.each in
    let few = sound.named.lots.few in
    omega (
      arith,
      charged,
      few,
      sum_by-le (λ (l : Lot). l.count) 1000000 f.lots most,
      length-append blanks f.discarded,
      length-map f.sessions (λ (s : Session). s.blank),
    )
