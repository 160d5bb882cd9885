-- Lemmas about the result of a query over one table, for the meaning of its text and the encoding
-- of the table's rows.
use Rattle.std.proofs.Common.{◌≡◌, ℕ, Bool, true, false, List, [], ◌∷◌, drop, length, map, Option, Some, None, inl, inr, refl, sym, ap, subst, ◌∙◌, arith}
use Rattle.std.specs.Prelude.{filter, find, option_map}
use Rattle.std.specs.List.{list_any}
use Rattle.std.specs.List.Sorted.{IsPermutation}
use Rattle.std.specs.Option.{option_to_list}
use Rattle.std.proofs.lemmas.List.{length-map}
use Rattle.std.proofs.lemmas.List.Sorted.{IsPermutation-map, length_permutation}
use Rattle.std.proofs.lemmas.Bool.{cases_Bool}
use Rattle.sqlite.specs.Command.TheVariants.{Select}
use Rattle.sqlite.specs.declared.types.Value.{Value}
use Rattle.sqlite.specs.declared.types.Value.TheVariants.{Null}
use Rattle.sqlite.specs.Listing.{reads_listing, understood}
use Rattle.sqlite.specs.Order.{Row}
use Rattle.sqlite.specs.State.{Shown, State}
use Rattle.sqlite.specs.Term.{Term}
use Rattle.sqlite.proofs.Callers.{IsPlain, command_of}
use Rattle.sql_base.specs.Queries.{from_tree}
use Rattle.sql_base.proofs.Selecting.{map_map, map_same, passes, selected, shown}
use Rattle.sql_tables.specs.Tables.{our_schema}
use Rattle.sql_rows.specs.Image.{given_rows}
use Rattle.table_rows.specs.Tables.{PassesOnce}
use Rattle.table_rows.proofs.Found.{find_passes}
use Rattle.row_reads.specs.Decoding.{IsFirst, has_rows}
use Rattle.row_reads.proofs.Looking.{looked_up, one_answered}

-- At the current schema, the text is a query for the rows of the tree `tree` that satisfy
-- `filters`, with the columns `project`.
pub record Asks (text : List ℕ) (tree : ℕ) (filters project : List Term) : Type 0 where
  pub names : List (List ℕ)
  pub is : command_of (understood our_schema text) ≡ Select (record { lets = []; body = from_tree tree filters project }) names
  pub plain : IsPlain (understood our_schema text)
  pub unlisted : reads_listing our_schema text ≡ false

-- a row in a query; a row that is encoded without its rowid gets an unused rowid before its columns
abbrev pub whole : Bool → Row → Row
whole true row = row
whole false row = Null ∷ row

-- a row as it is encoded
abbrev pub part : Bool → Row → Row
part true row = row
part false row = drop 1 row

part_given : (by_rowid : Bool) (rows : List Row) → given_rows by_rowid rows ≡ map (part by_rowid) rows
part_given true [] = refl
part_given true (r ∷ rows) = ap (λ rs. r ∷ rs) (part_given true rows)
part_given false rows = refl

-- the test of a row, and the columns that are shown of it
abbrev pub look : List Term → List Term → Row → Row → Bool × Row
look filters project params row = (passes filters params row, shown project params row)

-- the columns that are shown of an encoded row
abbrev pub shown_row : Bool → List Term → Row → Row → Row
shown_row by_rowid project params row = shown project params (whole by_rowid row)

module _ {X : Type 0} (by_rowid : Bool) (encode : X → Row) (filters project : List Term) (params : Row) (key : X → Bool)
    (none : look filters project params [] ≡ look filters project params (whole by_rowid (part by_rowid [])))
    (some : (v : Value) (r : Row) → look filters project params (v ∷ r) ≡ look filters project params (whole by_rowid (part by_rowid (v ∷ r))))
    (key_is : (x : X) → passes filters params (whole by_rowid (encode x)) ≡ key x) where
  looks : (r : Row) → look filters project params r ≡ look filters project params (whole by_rowid (part by_rowid r))
  looks [] = none
  looks (v ∷ r) = some v r

  -- the rows that satisfy the conditions show what the rows with the key encode
  pub given_as : (xs : List X) (stored rows : List Row) → IsPermutation (map encode xs) (given_rows by_rowid stored)
      → IsPermutation (map (shown project params) (filter (passes filters params) stored)) rows → IsPermutation (map (λ x. shown_row by_rowid project params (encode x)) (filter key xs)) rows
  given_as xs stored rows filled got =
      looked_up encode (part by_rowid) (passes filters params) (λ r. passes filters params (whole by_rowid r)) key (shown project params) (shown_row by_rowid project params)
      (λ x. shown_row by_rowid project params (encode x)) (λ r. ap (λ (l : Bool × Row). l.0) (looks r)) (λ r. ap (λ (l : Bool × Row). l.1) (looks r)) key_is (λ x. refl) xs
      stored rows (subst (IsPermutation (map encode xs)) (part_given by_rowid stored) filled) got

  -- the query therefore returns them
  pub asked : (text : List ℕ) (tree : ℕ) → Asks text tree filters project → (old new : State) (rows : List Row) → Shown text params old new rows → old.now.schema ≡ our_schema
      → (xs : List X) → IsPermutation (map encode xs) (given_rows by_rowid (old.now.trees tree)) → IsPermutation (map (λ x. shown_row by_rowid project params (encode x)) (filter key xs)) rows
  asked text tree asks old new rows h ours xs filled =
      given_as xs (old.now.trees tree) rows filled (selected text params old new our_schema ours tree filters project asks.names asks.is asks.plain asks.unlisted rows h)

-- values from the result
module _ {X Y : Type 0} (key : X → Bool) (view : X → Row) (xs : List X) (rows : List Row) (got : IsPermutation (map view (filter key xs)) rows) (decode : Row → Y) (f : X → Y) where
  -- the value of the first row, if at most one row has the key
  pub one_found : PassesOnce key xs → ((x : X) → key x ≡ true → decode (view x) ≡ f x) → (found : Option Y) → IsFirst (map decode rows) found → found ≡ option_map f (find key xs)
  one_found once back found first = from (find key xs) refl (subst (λ rs. IsFirst (map decode rs) found) (one_answered key view xs rows once got) first)
    where
      from : (o : Option X) → find key xs ≡ o → IsFirst (map decode (map view (option_to_list o))) found → found ≡ option_map f o
      from None is none = none
      from (Some x) is some = some ∙ ap Some (back x (find_passes key xs x is))

  -- the values of all rows
  pub all_found : ((x : X) → decode (view x) ≡ f x) → IsPermutation (map f (filter key xs)) (map decode rows)
  all_found back =
      subst (λ ys. IsPermutation ys (map decode rows)) (map_map decode view (filter key xs) ∙ map_same (λ x. decode (view x)) f back (filter key xs))
      (IsPermutation-map decode (map view (filter key xs)) rows got)

list_any_filter : {X : Type 0} (p : X → Bool) (view : X → Row) (xs : List X) → list_any p xs ≡ has_rows (map view (filter p xs))
list_any_filter p view [] = refl
list_any_filter p view (x ∷ xs) = elim (cases_Bool (p x)) [
  | inl hit ↦ rw hit refl
  | inr miss ↦ rw miss (list_any_filter p view xs)
]

has_as_long : (xs ys : List Row) → length ys ≡ length xs → has_rows ys ≡ has_rows xs
has_as_long [] [] same = refl
has_as_long [] (y ∷ ys) same = absurd (omega (arith, same))
has_as_long (x ∷ xs) [] same = absurd (omega (arith, same))
has_as_long (x ∷ xs) (y ∷ ys) same = refl

module _ {X : Type 0} (key : X → Bool) (view : X → Row) (xs : List X) (rows : List Row) (got : IsPermutation (map view (filter key xs)) rows) where
  -- the result has a row if and only if a row has the key
  pub any_found : has_rows rows ≡ list_any key xs
  any_found = has_as_long _ rows (length_permutation _ rows got) ∙ sym (list_any_filter key view xs)

  -- the result has as many rows as there are rows with the key
  pub count_found : length rows ≡ length (filter key xs)
  count_found = length_permutation (map view (filter key xs)) rows got ∙ length-map (filter key xs) view
