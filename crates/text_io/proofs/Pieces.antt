-- Texts that are written in pieces.
use Rattle.std.proofs.Common.{◌≡◌, ℕ, ◌+◌, ◌-◌, List, [], ◌∷◌, ◌++◌, length, take, drop, Option, Some, Result, Ok, Err, sym, subst, ap, ◌∙◌, take-append-drop}
use Rattle.std.specs.Prelude.{IsErrAnd}
use Rattle.std.specs.List.{flat_map, slice_get}
use Rattle.std.specs.Io.KnownBytes.{Appends}
use Rattle.std.proofs.KnownBytes.{Appends-trans}
use Rattle.std.proofs.lemmas.List.{append_assoc, append-nil, take_more, take_rest, flat_map_more}
use Rattle.std.proofs.lemmas.Grind.{flat_map-append}
use Rattle.std.proofs.lemmas.Option.{get_or_from_slice_get, slice_get_within}
use Rattle.std.proofs.Math.Seq.{take-add}
use Rattle.text_io.specs.Written.{AppendsBeginning, Writes}
use Rattle.text_io.specs.declared.writing.WriteFailed.{WriteFailed}

-- ---- one text

pub beginning : (before after : Option (List ℕ)) (text : List ℕ) (at : ℕ) → Appends before after (take at text) → AppendsBeginning before after text
beginning before after text at written = (take at text, drop at text, take-append-drop at text, written)

pub written_more : (a b c : Option (List ℕ)) (text : List ℕ) (at n : ℕ) → Appends a b (take at text) → Appends b c (take n (take (length text - at) (drop at text)))
    → Appends a c (take (at + n) text)
written_more a b c text at n first second =
    let more : Appends b c (take n (drop at text)) = subst (λ (rest : List ℕ). Appends b c (take n rest)) (take_rest text at) second in
    subst (Appends a c) (sym (take-add at n text)) (Appends-trans a b c (take at text) (take n (drop at text)) first more)

-- If the write failed, `Writes` requires only a prefix of the text.
pub stopped : (Q : WriteFailed → Type 0) (a c : Option (List ℕ)) (text : List ℕ) (r : Result (Unit {0}) WriteFailed) → IsErrAnd r Q → AppendsBeginning a c text → Writes a c text r
stopped Q a c text (Ok u) failed front = absurd failed
stopped Q a c text (Err e) failed front = front

-- ---- two texts

-- If `x` was written and then a prefix of `y`, a prefix of `x`, `y` and `z` was written.
pub begun : (a b c : Option (List ℕ)) (x y z : List ℕ) → Appends a b x → AppendsBeginning b c y → AppendsBeginning a c (x ++ (y ++ z))
begun a b c x y z first (front, back, split, written) = (
  x ++ front,
  back ++ z,
  append_assoc x front (back ++ z) ∙ ap (λ ys. x ++ ys) (sym (append_assoc front back z) ∙ ap (λ ys. ys ++ z) split),
  Appends-trans a b c x front first written,
)

-- If `x` was written and then `Writes` is true of `y`, `Writes` is true of both texts together.
pub writes_then : (a b c : Option (List ℕ)) (x y : List ℕ) (r : Result (Unit {0}) WriteFailed) → Appends a b x → Writes b c y r → Writes a c (x ++ y) r
writes_then a b c x y (Ok u) first next = Appends-trans a b c x y first next
writes_then a b c x y (Err e) first next = subst (λ ys. AppendsBeginning a c (x ++ ys)) (append-nil y) (begun a b c x y [] first next)

-- ---- a list of texts

-- The texts of the first `k + 1` elements consist of the first `k` texts and the text of `x`.
texts_more : {X : Type 0} (f : X → List ℕ) (xs : List X) (k : ℕ) (x : X) → slice_get xs k ≡ Some x → flat_map f (take (k + 1) xs) ≡ flat_map f (take k xs) ++ f x
texts_more f xs k x here =
    let within = slice_get_within xs k x here in
    sym (flat_map_more f [] (take k xs) x ∙ ap (λ ys. flat_map f ys) (ap (λ y. take k xs ++ y ∷ []) (sym (get_or_from_slice_get xs k x x here)) ∙ sym (take_more xs k x within)))

-- All texts together consist of the first `k` texts, the text of `x`, and the remaining texts.
texts_then : {X : Type 0} (f : X → List ℕ) (xs : List X) (k : ℕ) (x : X) → slice_get xs k ≡ Some x
    → flat_map f xs ≡ flat_map f (take k xs) ++ (f x ++ flat_map f (drop (k + 1) xs))
texts_then f xs k x here =
    ap (flat_map f) (sym (take-append-drop (k + 1) xs)) ∙ flat_map-append f (take (k + 1) xs) (drop (k + 1) xs)
    ∙ ap (λ ys. ys ++ flat_map f (drop (k + 1) xs)) (texts_more f xs k x here) ∙ append_assoc (flat_map f (take k xs)) (f x) (flat_map f (drop (k + 1) xs))

-- If the first `k` texts and the text of `x` were written, the first `k + 1` texts were written.
pub next_written : {X : Type 0} (f : X → List ℕ) (xs : List X) (k : ℕ) (x : X) (a b c : Option (List ℕ)) → slice_get xs k ≡ Some x
    → Appends a b (flat_map f (take k xs)) → Appends b c (f x) → Appends a c (flat_map f (take (k + 1) xs))
next_written f xs k x a b c here before next =
    subst (Appends a c) (sym (texts_more f xs k x here)) (Appends-trans a b c (flat_map f (take k xs)) (f x) before next)

-- If the first `k` texts and a prefix of the text of `x` were written, a prefix of all texts was
-- written.
pub next_begun : {X : Type 0} (f : X → List ℕ) (xs : List X) (k : ℕ) (x : X) (a b c : Option (List ℕ)) → slice_get xs k ≡ Some x
    → Appends a b (flat_map f (take k xs)) → AppendsBeginning b c (f x) → AppendsBeginning a c (flat_map f xs)
next_begun f xs k x a b c here before next =
    subst (AppendsBeginning a c) (sym (texts_then f xs k x here)) (begun a b c (flat_map f (take k xs)) (f x) (flat_map f (drop (k + 1) xs)) before next)
