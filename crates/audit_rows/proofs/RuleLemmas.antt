-- The first rule of a list that fails.
use Rattle.std.proofs.Common.{◌≡◌, ◌<◌, ℕ, zero, suc, Bool, true, false, List, [], ◌∷◌, ◌++◌, Option, Some, None, Result, Ok, Err, append-nil, append_assoc, arith, drop, get_or, is_some, length, refl, subst, sym, take, ◌∙◌}
use Rattle.std.specs.Prelude.{⊤, IfOk, IfSome}
use Rattle.std.proofs.Math.Seq.{split_at, take-suc}
use Rattle.std.proofs.lemmas.Bool.{false≢true}
use Rattle.table_rows.specs.Tables.{Tables}
use Rattle.audit_rows.specs.declared.rule.Rule.{Rule}
use Rattle.audit_rows.specs.Rules.{AllHold, FailsFirst, Holds, IsFirstFailing, IsReadyFor, rules}

-- A rule fails if its check returns `false`.
pub broken : {P : Type 0} {r : Bool} → r ≡ false → (r ≡ true → P) × (P → r ≡ true) → ¬ P
broken is tested = λ p. false≢true (sym is ∙ tested.1 p)

module _ (t : Tables) where
  pub all_hold : (some more : List Rule) → AllHold some t → AllHold more t → AllHold (some ++ more) t
  all_hold [] more held others = others
  all_hold (r ∷ some) more held others = (held.0, all_hold some more held.1 others)

  holds_among : (before after : List Rule) (rule : Rule) → AllHold (before ++ rule ∷ after) t → Holds rule t
  holds_among [] after rule held = held.0
  holds_among (r ∷ before) after rule held = holds_among before after rule held.1

  -- If all rules hold, no rule fails.
  pub none_fails : (some : List Rule) (o : Option Rule) → AllHold some t → IsFirstFailing some t o → is_some o ≡ false
  none_fails some None held first = refl
  none_fails some (Some rule) held first =
      absurd (first.fails (holds_among first.before first.after rule (subst (λ rs. AllHold rs t) first.place held)))

  pub where_none : (some : List Rule) (o : Option Rule) → is_some o ≡ false → IsFirstFailing some t o → AllHold some t
  where_none some None is first = first
  where_none some (Some rule) is first = absurd (false≢true (sym is))

  -- ---- the check of one rule after the other

  -- Each rule of the list `after` is ready to be checked once the rules before it hold, which are
  -- those of the list `before` and the first ones of `after`.
  abbrev pub AreReadyAfter : List Rule → List Rule → Type 0
  AreReadyAfter before [] = ⊤
  AreReadyAfter before (r ∷ after) = (AllHold before t → IsReadyFor r t) × AreReadyAfter (before ++ r ∷ []) after

  pub ready_at : (before after : List Rule) → AreReadyAfter before after → (k : ℕ) (d : Rule) → k < length after → AllHold (before ++ take k after) t → IsReadyFor (get_or after k d) t
  ready_at before [] each k d within held = absurd (omega arith)
  ready_at before (r ∷ after) each zero d within held = each.0 (subst (λ rs. AllHold rs t) (append-nil before) held)
  ready_at before (r ∷ after) each (suc k) d within held =
      ready_at (before ++ r ∷ []) after each.1 k d (omega arith) (subst (λ rs. AllHold rs t) (sym (append_assoc before (r ∷ []) (take k after))) held)

  -- The rule at index `k` fails, and the rules before it hold.
  pub fails_at : (some : List Rule) (k : ℕ) (d : Rule) → k < length some → AllHold (take k some) t → ¬ Holds (get_or some k d) t → FailsFirst some t (get_or some k d)
  fails_at some k d within held broken = record { before = take k some; after = drop (suc k) some; place = split_at some k d within; hold = held; fails = broken }

  -- One more rule holds.
  pub one_more : (some : List Rule) (k : ℕ) (d : Rule) → k < length some → AllHold (take k some) t → Holds (get_or some k d) t → AllHold (take (suc k) some) t
  one_more some k d within held holds = subst (λ rs. AllHold rs t) (sym (take-suc some k d within)) (all_hold (take k some) (get_or some k d ∷ []) held (holds, tt))

  -- ---- all rules

  pub none_found : {E B : Type 0} (r : Result (Option Rule) E) → (AllHold rules t → B) → (B → AllHold rules t) → IfOk r (IsFirstFailing rules t)
      → IfOk r (λ found. (is_some found ≡ false → B) × (B → is_some found ≡ false))
  none_found (Ok o) to back first = (λ none. to (where_none rules o none first), λ b. none_fails rules o (back b) first)
  none_found (Err e) to back first = tt

  pub first_found : {E : Type 0} (r : Result (Option Rule) E) → IfOk r (IsFirstFailing rules t) → IfOk r (λ found. IfSome found (FailsFirst rules t))
  first_found (Ok (Some rule)) first = first
  first_found (Ok None) first = tt
  first_found (Err e) first = tt

pub each_ok : {X E P : Type 0} (r : Result X E) → P → IfOk r (λ x. P)
each_ok (Ok x) p = p
each_ok (Err e) p = tt
