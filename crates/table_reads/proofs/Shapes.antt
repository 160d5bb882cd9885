-- A row of a STRICT table whose columns are all NOT NULL has exactly its columns.
use Rattle.std.proofs.Common.{◌≡◌, ◌+◌, ◌&&◌, ◌||◌, ℕ, zero, suc, Bool, true, false, not, List, [], ◌∷◌, Option, Some, length, drop, refl, sym, ap, ap₂, ◌∙◌, arith}
use Rattle.sqlite.specs.Ops.{is_null}
use Rattle.sqlite.specs.Order.{Row, column}
use Rattle.sqlite.specs.declared.types.Value.{Value}
use Rattle.sqlite.specs.declared.types.Value.TheVariants.{Blob, Int, Null, Real, Text}
use Rattle.sqlite_keyed.proofs.RuleLemmas.{first_of_both, second_of_both}
use Rattle.sqlite_schema.specs.Names.{is_key}
use Rattle.sqlite_schema.specs.Rules.{are_present, are_typed}
use Rattle.sqlite_schema.specs.declared.schema.Column.{Column}
use Rattle.table_reads.specs.Whole.{as_stored}

-- ---- the value at a position

head_at : (k : ℕ) (r : Row) (v : Value) (vs : Row) → drop k r ≡ v ∷ vs → column r k ≡ v
head_at zero [] v vs e = absurd (cc)
head_at zero (x ∷ r) v vs e = cc
head_at (suc k) [] v vs e = absurd (cc)
head_at (suc k) (x ∷ r) v vs e = head_at k r v vs e

tail_at : (k : ℕ) (r : Row) (v : Value) (vs : Row) → drop k r ≡ v ∷ vs → drop (suc k) r ≡ vs
tail_at zero [] v vs e = absurd (cc)
tail_at zero (x ∷ r) v vs e = cc
tail_at (suc k) [] v vs e = absurd (cc)
tail_at (suc k) (x ∷ r) v vs e = tail_at k r v vs e

past : (k : ℕ) (r : Row) → drop k r ≡ [] → column r k ≡ Null
past zero [] e = refl
past zero (x ∷ r) e = absurd (cc)
past (suc k) [] e = refl
past (suc k) (x ∷ r) e = past k r e

null_is : (v : Value) → is_null v ≡ true → v ≡ Null
null_is Null h = refl
null_is (Int n) h = absurd (cc)
null_is (Real x) h = absurd (cc)
null_is (Text t) h = absurd (cc)
null_is (Blob b) h = absurd (cc)

-- ---- columns that are NOT NULL and aren't the rowid

abbrev pub are_plain : Option ℕ → ℕ → List Column → Bool
are_plain key at [] = true
are_plain key at (c ∷ cs) = not (is_key key at) && (c.not_null && are_plain key (at + 1) cs)

-- the values of a row in these columns
abbrev pub spread : ℕ → List Column → Row → Row
spread at [] r = []
spread at (c ∷ cs) r = column r (at + 1) ∷ spread (at + 1) cs r

is_not : (b : Bool) → not b ≡ true → b ≡ false
is_not true h = absurd (cc)
is_not false h = refl

module _ (key : Option ℕ) where
  pub filled : (cs : List Column) (at : ℕ) (r vs : Row) → drop (at + 1) r ≡ vs → are_plain key at cs ≡ true → are_typed key at cs vs ≡ true → are_present key at cs r ≡ true → vs ≡ spread at cs r
  filled [] at r [] e plain typed present = refl
  filled [] at r (v ∷ vs) e plain typed present = absurd (cc)
  filled (c ∷ cs) at r [] e plain typed present =
      let other : is_key key at ≡ false = is_not _ (first_of_both _ _ plain) in
      let filled_in : c.not_null ≡ true = first_of_both _ _ (second_of_both _ _ plain) in
      let gone : column r (at + 1) ≡ Null = past (at + 1) r e in
      let here : (is_key key at || not c.not_null || not (is_null (column r (at + 1)))) ≡ true = first_of_both (is_key key at || not c.not_null || not (is_null (column r (at + 1)))) (are_present key (at + 1) cs r) present in
      absurd (let n = rw (other, filled_in, gone) at here in cc)
  filled (c ∷ cs) at r (v ∷ vs) e plain typed present =
      let one : at + 1 + 1 ≡ suc (at + 1) = omega arith in
      let more : drop (at + 1 + 1) r ≡ vs = ap (λ k. drop k r) one ∙ tail_at (at + 1) r v vs e in
      ap₂ ◌∷◌ (sym (head_at (at + 1) r v vs e)) (filled cs (at + 1) r vs more (second_of_both _ _ (second_of_both _ _ plain)) (second_of_both _ _ typed) (second_of_both (is_key key at || not c.not_null || not (is_null (column r (at + 1)))) (are_present key (at + 1) cs r) present))

-- ---- a table whose first column is its rowid

after : (c : Column) (cs : List Column) (r : Row) → are_present (Some 0) 0 (c ∷ cs) r ≡ true → are_present (Some 0) 1 cs r ≡ true
after c cs r = second_of_both (is_key (Some 0) 0 || not c.not_null || not (is_null (column r (0 + 1)))) (are_present (Some 0) 1 cs r)

keyed : (c d : Column) (cs : List Column) (r : Row) → are_plain (Some 0) 1 (d ∷ cs) ≡ true → are_typed (Some 0) 0 (c ∷ d ∷ cs) (drop 1 r) ≡ true → are_present (Some 0) 0 (c ∷ d ∷ cs) r ≡ true
    → as_stored true (column r 0 ∷ spread 1 (d ∷ cs) r) ≡ r
keyed c d cs [] plain typed present =
    absurd (let e : [] ≡ spread 1 (d ∷ cs) [] = filled (Some 0) (d ∷ cs) 1 [] [] refl plain (second_of_both _ _ typed) (after c (d ∷ cs) [] present) in cc)
keyed c d cs (i ∷ []) plain typed present =
    absurd (let e : [] ≡ spread 1 (d ∷ cs) (i ∷ []) = filled (Some 0) (d ∷ cs) 1 (i ∷ []) [] refl plain (second_of_both _ _ typed) (after c (d ∷ cs) (i ∷ []) present) in cc)
keyed c d cs (i ∷ k ∷ more) plain typed present =
    let null : k ≡ Null = null_is k (first_of_both _ _ typed) in
    let rest : more ≡ spread 1 (d ∷ cs) (i ∷ k ∷ more) = filled (Some 0) (d ∷ cs) 1 (i ∷ k ∷ more) more refl plain (second_of_both _ _ typed) (after c (d ∷ cs) (i ∷ k ∷ more) present) in
    ap (λ vs. i ∷ vs) (ap₂ ◌∷◌ (sym null) (sym rest))

abbrev pub are_keyed : List Column → Bool
are_keyed [] = false
are_keyed (c ∷ []) = false
are_keyed (c ∷ d ∷ cs) = are_plain (Some 0) 1 (d ∷ cs)

pub keyed_by : (cs : List Column) (r : Row) → are_keyed cs ≡ true → are_typed (Some 0) 0 cs (drop 1 r) ≡ true → are_present (Some 0) 0 cs r ≡ true → as_stored true (column r 0 ∷ spread 1 (drop 1 cs) r) ≡ r
keyed_by [] r plain typed present = absurd (cc)
keyed_by (c ∷ []) r plain typed present = absurd (cc)
keyed_by (c ∷ d ∷ cs) r plain typed present = keyed c d cs r plain typed present

-- ---- a row of a query, with a known length

abbrev pub firsts : ℕ → (ℕ → Value) → Row
firsts zero f = []
firsts (suc n) f = f 0 ∷ firsts n (λ i. f (suc i))

rebuilt_by : (r : Row) (f : ℕ → Value) → ((i : ℕ) → f i ≡ column r i) → r ≡ firsts (length r) f
rebuilt_by [] f same = refl
rebuilt_by (v ∷ r) f same = ap₂ ◌∷◌ (sym (same 0)) (rebuilt_by r (λ i. f (suc i)) (λ i. same (suc i)))

pub rebuilt : (n : ℕ) (r : Row) → length r ≡ n → r ≡ firsts n (column r)
rebuilt n r is = rebuilt_by r (column r) (λ i. refl) ∙ ap (λ m. firsts m (column r)) is
