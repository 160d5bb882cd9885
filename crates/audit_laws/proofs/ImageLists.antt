-- Lists that are rebuilt from a value of each element, and nested `flat_map`s.
use Rattle.std.proofs.Common.{◌≡◌, List, [], ◌∷◌, ◌++◌, All, map, refl, sym, ap, ◌∙◌}
use Rattle.std.specs.List.{flat_map}
use Rattle.std.proofs.lemmas.List.Concat.{flat_map-append}
use Rattle.std.proofs.lemmas.List.Folds.{map_fixed}
use Rattle.std.proofs.lemmas.Simd.{map-map}

pub made_again : {X Y : Type 0} (g : Y → X) (h : X → Y) (xs : List X) → All (λ x. g (h x) ≡ x) xs → map g (map h xs) ≡ xs
made_again g h xs again = map-map g h xs ∙ map_fixed (λ x. g (h x)) xs again

pub flat_joined : {X Y Z : Type 0} (h : Y → List Z) (k : X → List Y) (xs : List X)
    → flat_map (λ x. flat_map h (k x)) xs ≡ flat_map h (flat_map k xs)
flat_joined h k [] = refl
flat_joined h k (x ∷ xs) = ap (λ zs. flat_map h (k x) ++ zs) (flat_joined h k xs) ∙ sym (flat_map-append h (k x) (flat_map k xs))
