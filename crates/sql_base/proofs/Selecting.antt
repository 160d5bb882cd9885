-- The result of a query over one table.
use Rattle.std.proofs.Common.{inl, inr, ◌≡◌, ℕ, List, [], ◌∷◌, map, filter, flat_map, cond, Bool, true, false, None, Option, Result, Ok, Err, IfOk, OnOk, refl, sym, ap, subst, ◌∙◌, slice_get, unwrap_or, nat_le, ◌-◌, ◌^◌}
use Rattle.std.proofs.lemmas.Bool.{cases_Bool}
use Rattle.std.specs.List.{list_all}
use Rattle.std.specs.List.Sorted.{IsPermutation}
use Rattle.std.proofs.lemmas.List.Sorted.{IsPermutation-map}
use Rattle.sqlite.specs.declared.types.Value.TheVariants.{Null}
use Rattle.sqlite.specs.Order.{Row}
use Rattle.sqlite.specs.Term.{Term, Env, holds, eval_all}
use Rattle.sqlite.specs.Query.{IsAnswer, Output, output}
use Rattle.sqlite.specs.Program.{overlay}
use Rattle.sqlite.specs.Tree.{Trees}
use Rattle.sqlite.specs.Schema.{Schema}
use Rattle.sqlite.specs.Command.TheVariants.{Select}
use Rattle.sqlite.specs.Listing.{understood, reads_listing}
use Rattle.sqlite.specs.State.{State, Shown}
use Rattle.sqlite.proofs.Callers.{IsPlain, command_of, reads_as}
use Rattle.sql_base.specs.Queries.{from_tree}

-- The row satisfies every term of WHERE.
abbrev pub passes : List Term → Row → Row → Bool
passes filter params row = list_all (holds (params ∷ row ∷ [])) filter

abbrev pub shown : List Term → Row → Row → Row
shown project params row = eval_all project (params ∷ row ∷ [])

stored_rows : (b : Bool) (o : Option (List Row)) (rows : List Row) → o ≡ None → unwrap_or (cond b o None) rows ≡ rows
stored_rows true o rows none = ap (λ (x : Option (List Row)). unwrap_or x rows) none
stored_rows false o rows none = refl

pub no_overlay : (db : Trees) (t : ℕ) → overlay db [] t ≡ db t
no_overlay db t = let none : List (List Row) = [] in stored_rows (nat_le (2 ^ 31) t) (slice_get none (t - 2 ^ 31)) (db t) refl

pub matched : (filters : List Term) (params : Row) (rows : List Row)
    → flat_map (λ r. cond (list_all (holds (params ∷ r ∷ [])) filters) ((params ∷ r ∷ []) ∷ []) []) rows ≡ map (λ r. params ∷ r ∷ []) (filter (passes filters params) rows)
matched filters params [] = refl
matched filters params (r ∷ rows) = elim (cases_Bool (list_all (holds (params ∷ r ∷ [])) filters)) [
  | inl hit ↦ rw hit (ap (λ xs. (params ∷ r ∷ []) ∷ xs) (matched filters params rows))
  | inr miss ↦ rw miss (matched filters params rows)
]

pub map_map : {A B C : Type 0} (g : B → C) (f : A → B) (xs : List A) → map g (map f xs) ≡ map (λ x. g (f x)) xs
map_map g f [] = refl
map_map g f (x ∷ xs) = ap (λ ys. g (f x) ∷ ys) (map_map g f xs)

-- the rows that pass, as shown, in any order
pub answered : (tree : ℕ) (filters project : List Term) (db : Trees) (params : Row) (rows : List Row) → IsAnswer (from_tree tree filters project) (overlay db []) params rows
    → IsPermutation (map (shown project params) (filter (passes filters params) (db tree))) rows
answered tree filters project db params rows a =
    let q = from_tree tree filters project in
    let found : a.staged ≡ map (λ r. params ∷ r ∷ []) (filter (passes filters params) (db tree)) = a.grouped ∙ matched filters params (overlay db [] tree) ∙ ap (λ rs. map (λ r. params ∷ r ∷ []) (filter (passes filters params) rs)) (no_overlay db tree) in
    let all : map (λ (p : Output). p.1) a.kept ≡ map (shown project params) (filter (passes filters params) (db tree)) =
    ap (map (λ (p : Output). p.1)) (a.distinct ∙ ap (map (output q)) found)
    ∙ map_map (λ (p : Output). p.1) (output q) (map (λ r. params ∷ r ∷ []) (filter (passes filters params) (db tree)))
    ∙ map_map (λ (e : Env). eval_all project e) (λ r. params ∷ r ∷ []) (filter (passes filters params) (db tree)) in
    subst (λ xs. IsPermutation xs rows) all (subst (IsPermutation (map (λ (p : Output). p.1) a.kept)) (sym a.shown) (IsPermutation-map (λ (p : Output). p.1) a.kept a.ordered a.same))

-- the result of a query over one table without ORDER BY
pub selected : (sql : List ℕ) (params : Row) (old new : State) (schema : Schema) → old.now.schema ≡ schema → (tree : ℕ) (filters project : List Term) (names : List (List ℕ))
    → command_of (understood schema sql) ≡ Select (record { lets = []; body = from_tree tree filters project }) names → IsPlain (understood schema sql) → reads_listing schema sql ≡ false
    → (rows : List Row) → Shown sql params old new rows → IsPermutation (map (shown project params) (filter (passes filters params) (old.now.trees tree))) rows
selected sql params old new schema has tree filters project names is plain unlisted rows h =
    let command = Select (record { lets = []; body = from_tree tree filters project }) names in
    answered tree filters project old.now.trees params rows ((reads_as sql params old new schema has command is plain unlisted rows h).answer Null)

pub all_pass : {X : Type 0} (xs : List X) → filter (λ _. true) xs ≡ xs
all_pass [] = refl
all_pass (x ∷ xs) = ap (λ ys. x ∷ ys) (all_pass xs)

pub map_same : {A B : Type 0} (f g : A → B) → ((x : A) → f x ≡ g x) → (xs : List A) → map f xs ≡ map g xs
map_same f g same [] = refl
map_same f g same (x ∷ xs) = rw (same x, map_same f g same xs) refl

pub if_ok : {X E : Type 0} (r : Result X E) (P Q : X → Type 0) → ((x : X) → P x → Q x) → IfOk r P → IfOk r Q
if_ok (Ok x) P Q f h = f x h
if_ok (Err e) P Q f h = tt

pub on_ok : {X E : Type 0} (r : Result X E) (P : Type 0) → P → OnOk r P
on_ok (Ok x) P h = h
on_ok (Err e) P h = tt
