-- The values of options with a number, and of flags.
use Rattle.std.proofs.Common.{◌≡◌, ◌∙◌, ◌<◌, ◌^◌, ◌↔◌, ℕ, Bool, true, false, codes, Option, None, Some, refl, sym, ap}
use Rattle.std.specs.Prelude.{Result, Ok, Err}
use Rattle.std.specs.Str.Parse.{ParsesBool, ParsesUnsigned}
use Rattle.clap.specs.Words.{Text, one_of, one_text, rows_of}
use Rattle.clap.specs.Matches.{ReadsOne}
use Rattle.clap.specs.declared.parser.matches.Found.{Found}
use Rattle.clap.proofs.WalkLemmas.{one_text-rows}
use Rattle.arguments.specs.Words.{IsFlag, IsNumber}

-- A getter of an unsigned type of `k` bits returns `n` if and only if the value of the option is
-- the number `n` and the type contains `n`.
pub number_read : (E : Type 0) (G : Text → Result ℕ E → Type 0) (k : ℕ) (name : Text) (f : Found) (r : Option ℕ)
    → ((u : Text) (x : Result ℕ E) → G u x → ParsesUnsigned k 10 u x)
    → (one_text f name ≡ None → r ≡ None) → ((t : Text) → one_text f name ≡ Some t → ReadsOne G t r)
    → (n : ℕ) → (r ≡ Some n) ↔ (IsNumber name (rows_of f) n × (n < 2 ^ k))
number_read E G k name f r only none some n = at (one_text f name) refl r none some
  where
    at : (o : Option Text) → one_text f name ≡ o → (r : Option ℕ) → (one_text f name ≡ None → r ≡ None)
        → ((t : Text) → one_text f name ≡ Some t → ReadsOne G t r) → (r ≡ Some n) ↔ (IsNumber name (rows_of f) n × (n < 2 ^ k))
    at None is r none some = (
      (λ read. let gone = none is in cc),
      (λ has. let bad : Some has.0.0 ≡ None = sym has.0.1 ∙ sym (one_text-rows f name) ∙ is in cc),
    )
    at (Some t) is (Some v) none some =
        let parsed : ParsesUnsigned {E = E} k 10 t (Ok v) = only t (Ok v) (some t is) in (
          (λ read.
              let same : v ≡ n = cc in
              ((t, sym (one_text-rows f name) ∙ is, parsed.0.0, sym parsed.1 ∙ same), rw (← same, parsed.1) parsed.0.1)),
          (λ has.
              let text : Some has.0.0 ≡ Some t = sym has.0.1 ∙ sym (one_text-rows f name) ∙ is in
              let same : has.0.0 ≡ t = cc in
              ap Some (parsed.1 ∙ rw (← same) has.0.3)),
        )
    at (Some t) is None none some =
        let failed = some t is in (
          (λ read. cc),
          (λ has.
              let text : Some has.0.0 ≡ Some t = sym has.0.1 ∙ sym (one_text-rows f name) ∙ is in
              let same : has.0.0 ≡ t = cc in
              absurd (only t (Err failed.0) failed.1 (rw (← same) has.0.2, rw (← same, has.0.3) has.1))),
        )

-- The getter of a flag returns `on` if and only if `on` is the value of the flag.
pub flag_read : (E : Type 0) (name : Text) (f : Found) (r : Option Bool) → (one_text f name ≡ None → r ≡ None)
    → ((t : Text) → one_text f name ≡ Some t → ReadsOne (ParsesBool {E = E}) t r)
    → (on : Bool) → (r ≡ Some on) ↔ IsFlag name (rows_of f) on
flag_read E name f r none some on = at (one_text f name) refl r none some on
  where
    same_text : (t u : Text) → one_text f name ≡ Some t → one_of name (rows_of f) ≡ Some u → u ≡ t
    same_text t u is has = let same : Some u ≡ Some t = sym has ∙ sym (one_text-rows f name) ∙ is in cc

    at : (o : Option Text) → one_text f name ≡ o → (r : Option Bool) → (one_text f name ≡ None → r ≡ None)
        → ((t : Text) → one_text f name ≡ Some t → ReadsOne (ParsesBool {E = E}) t r) → (on : Bool) → (r ≡ Some on) ↔ IsFlag name (rows_of f) on
    at None is r none some on = (
      (λ read. let gone = none is in cc),
      (λ has. let bad = sym has ∙ sym (one_text-rows f name) ∙ is in cc),
    )
    at (Some t) is (Some true) none some true = ((λ read. sym (one_text-rows f name) ∙ is ∙ ap Some (some t is)), (λ has. refl))
    at (Some t) is (Some false) none some false = ((λ read. sym (one_text-rows f name) ∙ is ∙ ap Some (some t is)), (λ has. refl))
    at (Some t) is (Some true) none some false =
        ((λ read. cc), (λ has. let bad : codes "false" ≡ codes "true" = same_text t _ is has ∙ some t is in cc))
    at (Some t) is (Some false) none some true =
        ((λ read. cc), (λ has. let bad : codes "true" ≡ codes "false" = same_text t _ is has ∙ some t is in cc))
    at (Some t) is None none some true = ((λ read. cc), (λ has. absurd ((some t is).1.0 (sym (same_text t _ is has)))))
    at (Some t) is None none some false = ((λ read. cc), (λ has. absurd ((some t is).1.1 (sym (same_text t _ is has)))))
