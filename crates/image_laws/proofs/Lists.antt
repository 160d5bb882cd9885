-- Numbered lists and concatenated lists.
use Rattle.std.proofs.Common.{◌≡◌, ℕ, ◌+◌, List, [], ◌∷◌, ◌++◌, All, refl, ap, ◌∙◌, IsPermutation}
use Rattle.std.specs.List.{enumerate_from, flat_map}
use Rattle.std.proofs.lemmas.List.Elements.{All-append, All-cons, All-head, All-nil, All-tail}
use Rattle.std.proofs.lemmas.List.Sorted.{IsPermutation-push_more, IsPermutation-refl}
use Rattle.job_facts.specs.Facts.{Facts, Session}
use Rattle.step_laws.specs.Later.{IsMore, KnowsMore}
use Rattle.step_laws.proofs.Kept.{no_more}

module _ {X : Type 0} where
  -- A property of all elements is a property of all elements of the numbered list.
  pub All-numbered : (P : X → Type 0) (n : ℕ) (xs : List X) → All P xs → All (λ (e : ℕ × X). P e.1) (enumerate_from n xs)
  All-numbered P n [] each = All-nil (λ (e : ℕ × X). P e.1)
  All-numbered P n (x ∷ xs) each = All-cons (λ (e : ℕ × X). P e.1) (n, x) (enumerate_from (n + 1) xs) (All-head P x xs each) (All-numbered P (n + 1) xs (All-tail P x xs each))

  -- A property of all elements of each list is a property of all elements of the concatenation.
  pub All-joined : {Y : Type 0} (P : Y → Type 0) (g : X → List Y) (xs : List X) → All (λ x. All P (g x)) xs → All P (flat_map g xs)
  All-joined P g [] each = All-nil P
  All-joined P g (x ∷ xs) each = All-append P (g x) (flat_map g xs) (All-head (λ y. All P (g y)) x xs each) (All-joined P g xs (All-tail (λ y. All P (g y)) x xs each))

  -- An element that is appended may also be prepended.
  pub pushed : (xs : List X) (x : X) → IsPermutation (xs ++ x ∷ []) (x ∷ xs)
  pushed xs x = IsPermutation-push_more xs xs (x ∷ xs) x (IsPermutation-refl xs) (IsPermutation-refl (x ∷ xs))

  pub flat_map_same : {Y : Type 0} (f g : X → List Y) (xs : List X) → All (λ x. f x ≡ g x) xs → flat_map f xs ≡ flat_map g xs
  flat_map_same f g [] same = refl
  flat_map_same f g (x ∷ xs) same =
      ap (λ ys. ys ++ flat_map f xs) (All-head (λ y. f y ≡ g y) x xs same) ∙ ap (λ ys. g x ++ ys) (flat_map_same f g xs (All-tail (λ y. f y ≡ g y) x xs same))

-- Equal lists are permutations of each other.
pub unmoved : {X : Type 0} (xs ys : List X) → xs ≡ ys → IsPermutation xs ys
unmoved xs ys same = rw same (IsPermutation-refl ys)

-- If blanks are discarded, batches are closed and sessions change, everything known before is still
-- known.
pub knows_later : (f : Facts) (sessions : List Session) (discarded : List ℕ) (closed : List (List ℕ)) → IsMore f.discarded discarded → IsMore f.closed closed
    → KnowsMore f (record f { sessions = sessions; discarded = discarded; closed = closed })
knows_later f sessions discarded closed more_discarded more_closed = record {
  products = no_more f.products;
  lots = no_more f.lots;
  batches = no_more f.batches;
  discarded = more_discarded;
  remakes = no_more f.remakes;
  withdrawn = no_more f.withdrawn;
  closed = more_closed;
}
