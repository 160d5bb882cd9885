-- Values as they are stored, and an added row.
use Rattle.std.proofs.Common.{◌≡◌, ℤ, List, ◌∷◌, map, drop, cond, Bool, true, false, refl, subst}
use Rattle.std.specs.List.Sorted.{IsPermutation}
use Rattle.std.proofs.lemmas.List.Sorted.{IsPermutation-map}
use Rattle.sqlite.specs.declared.types.Value.{Value}
use Rattle.sqlite.specs.declared.types.Value.TheVariants.{Null, Int}
use Rattle.sqlite.specs.Order.{Row}
use Rattle.sqlite.specs.Ops.{unary}
use Rattle.sqlite.specs.Cast.{cast}
use Rattle.sqlite.specs.Kind.TheVariants.{Integer}
use Rattle.sqlite.specs.Tree.{put_row}
use Rattle.sqlite.specs.Edit.{is_taken, with_rowid}
use Rattle.sqlite.specs.Rowids.TheVariants.{Chosen}
use Rattle.sql_base.proofs.Inserting.{put_fresh}

either : (b : Bool) (x : Value) → cond b x x ≡ x
either true x = refl
either false x = refl

pub cast_null : cast Integer Null ≡ Null
unfolding unary
cast_null = either _ Null

pub cast_int : (n : ℤ) → cast Integer (Int n) ≡ Int n
unfolding unary
cast_int n = either _ (Int n)

-- an added row, under a rowid that SQLite chooses
pub one_more : (stored : Row) (rows all : List Row) → put_row (with_rowid Chosen rows (Null ∷ stored)) rows ≡ all → is_taken rows (with_rowid Chosen rows (Null ∷ stored)) ≡ false
    → IsPermutation (stored ∷ map (drop 1) rows) (map (drop 1) all)
one_more stored rows all is free =
    subst (λ xs. IsPermutation (stored ∷ map (drop 1) rows) (map (drop 1) xs)) is (IsPermutation-map (drop 1) _ _ (put_fresh (with_rowid Chosen rows (Null ∷ stored)) rows free))
