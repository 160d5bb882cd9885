-- Lemmas: the call of a body depends only on the object that is read. Structured values aren't
-- members of a request, and each request has all its members and no other.
use Rattle.std.proofs.Common.{◌≡◌, ℕ, suc, ◌==◌, ◌<◌, ◌≤◌, List, [], ◌∷◌, length, Bool, true, false, not, ◌&&◌, ◌||◌, if◌then◌else◌, bytes_eq, codes, Ordering, Less, Equal, Greater, nat_cmp, is_eq, Option, Some, None, option_map, option_and_then, refl, sym, ap, ap₂, ◌∙◌, arith, eqb-true}
use Rattle.std.proofs.lemmas.Map.Text.{is_eq-slice_cmp}
use Rattle.std.proofs.lemmas.Slice.Eq.{bytes_eq-Decides}
use Rattle.std.proofs.lemmas.Bool.{false≢true}
use Rattle.std.specs.Cmp.Lexicographic.{slice_cmp}
use Rattle.std.specs.List.{list_all, list_any}
use Rattle.std.specs.Option.{is_some}
use Rattle.std.specs.Ordering.{match_ordering}
use Rattle.std.specs.Str.Parse.{digits_value}
use Rattle.text_io.specs.Numbers.{is_word}
use Rattle.store_data.specs.Name.{is_name}
use Rattle.job_facts.specs.declared.request.Request.{Request}
use Rattle.serde_json.specs.Data.{Data, null, boolean, number, string, array, object, Members, no_members, member}
use Rattle.serde_json.specs.Find.{as_bool, as_number, as_object, as_str, as_u64, get_member}
use Rattle.http_requests.specs.Bodies.{are_known, is_member_name, known_primitives, object_in, primitive_of, primitives_of}
use Rattle.http_requests.specs.Members.{name_at, number_at, passing, text_at, value_in}
use Rattle.http_requests.specs.Requests.{abort_in, answer_in, call_by_word, call_in, call_of_value, close_in, count_of, discard_in, flag_at, is_within, lot_in, number_within, open_in, product_in, release_in, remake_in, request_by_word, with_four, with_three, with_two, withdraw_in, word_in}
use Rattle.http_requests.proofs.BodyLemmas.{and_true, both, known_some, unknown_none}

-- ---- null in place of structured values

primitive_or : (o : Ordering) (x : Option Data) (d : Data) → match_ordering o (option_map primitive_of x) (Some (primitive_of d)) (option_map primitive_of x) ≡ option_map primitive_of (match_ordering o x (Some d) x)
primitive_or Less x d = refl
primitive_or Equal x d = refl
primitive_or Greater x d = refl

found_primitive : (k : List ℕ) (ms : Members) → get_member k (primitives_of ms) ≡ option_map primitive_of (get_member k ms)
found_primitive k no_members = refl
found_primitive k (member l d ms) =
    ap (λ x. match_ordering (slice_cmp nat_cmp k l) x (Some (primitive_of d)) x) (found_primitive k ms) ∙ primitive_or (slice_cmp nat_cmp k l) (get_member k ms) d

as_str_same : (d : Data) → as_str (primitive_of d) ≡ as_str d
as_str_same null = refl
as_str_same (boolean b) = refl
as_str_same (number n) = refl
as_str_same (string s) = refl
as_str_same (array ds) = refl
as_str_same (object ms) = refl

as_number_same : (d : Data) → as_number (primitive_of d) ≡ as_number d
as_number_same null = refl
as_number_same (boolean b) = refl
as_number_same (number n) = refl
as_number_same (string s) = refl
as_number_same (array ds) = refl
as_number_same (object ms) = refl

as_bool_same : (d : Data) → as_bool (primitive_of d) ≡ as_bool d
as_bool_same null = refl
as_bool_same (boolean b) = refl
as_bool_same (number n) = refl
as_bool_same (string s) = refl
as_bool_same (array ds) = refl
as_bool_same (object ms) = refl

then_same : {T : Type 0} (f : Data → Option T) → ((d : Data) → f (primitive_of d) ≡ f d) → (x : Option Data) → option_and_then f (option_map primitive_of x) ≡ option_and_then f x
then_same f same None = refl
then_same f same (Some d) = same d

module _ (ms : Members) where
  text_same : (k : List ℕ) → text_at k (object (primitives_of ms)) ≡ text_at k (object ms)
  unfolding text_at
  text_same k = ap (option_and_then as_str) (found_primitive k ms) ∙ then_same as_str as_str_same (get_member k ms)

  name_same : (k : List ℕ) → name_at k (object (primitives_of ms)) ≡ name_at k (object ms)
  unfolding name_at
  name_same k = ap (option_and_then (passing is_name)) (text_same k)

  flag_same : (k : List ℕ) → flag_at k (object (primitives_of ms)) ≡ flag_at k (object ms)
  unfolding flag_at
  flag_same k = ap (option_and_then as_bool) (found_primitive k ms) ∙ then_same as_bool as_bool_same (get_member k ms)

  number_same : (k : List ℕ) → number_at k (object (primitives_of ms)) ≡ number_at k (object ms)
  number_same k = ap (option_and_then as_u64) (ap (option_and_then as_number) (found_primitive k ms) ∙ then_same as_number as_number_same (get_member k ms))

  within_same : (least most : ℕ) (k : List ℕ) → number_within least most k (object (primitives_of ms)) ≡ number_within least most k (object ms)
  unfolding number_within
  within_same least most k = ap (option_and_then (passing (is_within least most))) (number_same k)

  word_same : word_in (object (primitives_of ms)) ≡ word_in (object ms)
  unfolding word_in
  word_same = ap (λ t. option_map (digits_value 16) (option_and_then (passing is_word) t)) (text_same (codes "sw"))

  product_same : product_in (object (primitives_of ms)) ≡ product_in (object ms)
  unfolding product_in
  product_same = rw (name_same (codes "product"), within_same 16 255 (codes "max"), within_same 0 31 (codes "low"), flag_same (codes "check")) refl

  lot_same : lot_in (object (primitives_of ms)) ≡ lot_in (object ms)
  unfolding lot_in
  lot_same = rw (name_same (codes "lot"), name_same (codes "product"), within_same 0 999999999999999999 (codes "first"), within_same 1 1000000 (codes "count")) refl

  open_same : open_in (object (primitives_of ms)) ≡ open_in (object ms)
  unfolding open_in
  open_same = rw (name_same (codes "batch"), within_same 0 999999999999999999 (codes "blank")) refl

  answer_same : answer_in (object (primitives_of ms)) ≡ answer_in (object ms)
  unfolding answer_in
  answer_same = rw (within_same 1 999999999999999999 (codes "session"), within_same 0 4294967295 (codes "index"), word_same) refl

  abort_same : abort_in (object (primitives_of ms)) ≡ abort_in (object ms)
  unfolding abort_in
  abort_same = rw (within_same 1 999999999999999999 (codes "session")) refl

  discard_same : discard_in (object (primitives_of ms)) ≡ discard_in (object ms)
  unfolding discard_in
  discard_same = rw (within_same 0 999999999999999999 (codes "blank")) refl

  remake_same : remake_in (object (primitives_of ms)) ≡ remake_in (object ms)
  unfolding remake_in
  remake_same = rw (name_same (codes "batch"), name_same (codes "record")) refl

  withdraw_same : withdraw_in (object (primitives_of ms)) ≡ withdraw_in (object ms)
  unfolding withdraw_in
  withdraw_same = rw (name_same (codes "batch"), name_same (codes "record")) refl

  close_same : close_in (object (primitives_of ms)) ≡ close_in (object ms)
  unfolding close_in
  close_same = rw (name_same (codes "batch")) refl

  release_same : release_in (object (primitives_of ms)) ≡ release_in (object ms)
  unfolding release_in
  release_same = rw (within_same 1 999999999999999999 (codes "upto")) refl

  request_same : (word : List ℕ) (count : ℕ) → request_by_word word count (object (primitives_of ms)) ≡ request_by_word word count (object ms)
  unfolding request_by_word
  request_same word count = rw (product_same, lot_same, open_same, answer_same, abort_same, discard_same, remake_same, withdraw_same, close_same) refl

  call_same : (word : List ℕ) (count : ℕ) → call_by_word word count (object (primitives_of ms)) ≡ call_by_word word count (object ms)
  unfolding call_by_word
  call_same word count = rw (release_same, request_same word count) refl

  word_call_same : (count : ℕ) (text : Option (List ℕ))
      → option_and_then (λ word. call_by_word word count (object (primitives_of ms))) text ≡ option_and_then (λ word. call_by_word word count (object ms)) text
  word_call_same count None = refl
  word_call_same count (Some word) = call_same word count

count_same : (ms : Members) → count_of (primitives_of ms) ≡ count_of ms
count_same no_members = refl
count_same (member k d ms) = ap suc (count_same ms)

value_same : (ms : Members) → call_of_value (object (primitives_of ms)) ≡ call_of_value (object ms)
unfolding call_of_value
value_same ms =
    ap₂ (λ n t. option_and_then (λ word. call_by_word word n (object (primitives_of ms))) t) (count_same ms) (text_same ms (codes "do")) ∙ word_call_same ms (count_of ms) (text_at (codes "do") (object ms))

-- ---- an object with an unknown member

abbrev present : List ℕ → Members → Bool
present k no_members = false
present k (member l d ms) = bytes_eq k l || present k ms

some_or : (o : Ordering) (x : Option Data) (d : Data) → is_some (match_ordering o x (Some d) x) ≡ (is_eq o || is_some x)
some_or Less x d = refl
some_or Equal x d = refl
some_or Greater x d = refl

found_present : (k : List ℕ) (ms : Members) → is_some (get_member k ms) ≡ present k ms
found_present k no_members = refl
found_present k (member l d ms) = some_or (slice_cmp nat_cmp k l) (get_member k ms) d ∙ ap₂ (λ a b. a || b) (is_eq-slice_cmp k l) (found_present k ms)

-- the members without the first that has the name `k`
abbrev without : List ℕ → Members → Members
without k no_members = no_members
without k (member l d ms) = if bytes_eq k l then ms else member l d (without k ms)

count_without_at : (k l : List ℕ) (d : Data) (ms : Members) (b : Bool) → (b || present k ms) ≡ true → (present k ms ≡ true → suc (count_of (without k ms)) ≡ count_of ms)
    → suc (count_of (if b then ms else member l d (without k ms))) ≡ suc (count_of ms)
count_without_at k l d ms true e more = refl
count_without_at k l d ms false e more = ap suc (more e)

count_without : (k : List ℕ) (ms : Members) → present k ms ≡ true → suc (count_of (without k ms)) ≡ count_of ms
count_without k no_members e = absurd (false≢true e)
count_without k (member l d ms) e = count_without_at k l d ms (bytes_eq k l) e (count_without k ms)

other : (q k l : List ℕ) → bytes_eq q k ≡ false → bytes_eq k l ≡ true → (c : Bool) → bytes_eq q l ≡ c → c ≡ false
other q k l apart same false is = refl
other q k l apart same true is =
    let through : q ≡ k = (bytes_eq-Decides q l).0 is ∙ sym ((bytes_eq-Decides k l).0 same) in
    absurd (false≢true (sym apart ∙ (bytes_eq-Decides q k).1 through))

either : (a b c : Bool) → (a || b) ≡ true → (b ≡ true → c ≡ true) → (a || c) ≡ true
either true b c e more = refl
either false b c e more = more e

present_without_at : (q k l : List ℕ) (d : Data) (ms : Members) (b : Bool) → bytes_eq k l ≡ b → bytes_eq q k ≡ false → (bytes_eq q l || present q ms) ≡ true → (present q ms ≡ true → present q (without k ms) ≡ true)
    → present q (if b then ms else member l d (without k ms)) ≡ true
present_without_at q k l d ms true is apart e more = sym (ap (λ c. c || present q ms) (other q k l apart is (bytes_eq q l) refl)) ∙ e
present_without_at q k l d ms false is apart e more = either (bytes_eq q l) (present q ms) (present q (without k ms)) e more

present_without : (q k : List ℕ) (ms : Members) → bytes_eq q k ≡ false → present q ms ≡ true → present q (without k ms) ≡ true
present_without q k no_members apart e = e
present_without q k (member l d ms) apart e = present_without_at q k l d ms (bytes_eq k l) refl apart e (present_without q k ms apart)

abbrev distinct : List (List ℕ) → Bool
distinct [] = true
distinct (k ∷ ks) = not (list_any (λ q. bytes_eq q k) ks) && distinct ks

neither : (a b : Bool) → (a || b) ≡ false → (a ≡ false) × (b ≡ false)
neither true b e = absurd (false≢true (sym e))
neither false b e = (refl, e)

not_true : (b : Bool) → not b ≡ true → b ≡ false
not_true true e = absurd (false≢true e)
not_true false e = refl

all_without : (k : List ℕ) (ks : List (List ℕ)) (ms : Members) → list_any (λ q. bytes_eq q k) ks ≡ false → list_all (λ q. present q ms) ks ≡ true → list_all (λ q. present q (without k ms)) ks ≡ true
all_without k [] ms apart e = refl
all_without k (q ∷ ks) ms apart e =
    let differ = neither (bytes_eq q k) _ apart in
    let there = and_true (present q ms) _ e in
    both _ _ (present_without q k ms differ.0 there.0) (all_without k ks ms differ.1 there.1)

-- an object has at least as many members as names are found in it
names_fit : (ks : List (List ℕ)) (ms : Members) → distinct ks ≡ true → list_all (λ k. present k ms) ks ≡ true → length ks ≤ count_of ms
names_fit [] ms apart e = omega arith
names_fit (k ∷ ks) ms apart e =
    let differ = and_true (not (list_any (λ q. bytes_eq q k) ks)) _ apart in
    let there = and_true (present k ms) _ e in
    let less = names_fit ks (without k ms) differ.1 (all_without k ks ms (not_true _ differ.0) there.1) in
    omega (arith, count_without k ms there.0)

abbrev Stranger : Members → Type 0
Stranger ms = (k : List ℕ) × (is_member_name k ≡ false) × (present k ms ≡ true)

second : (a b : Bool) → b ≡ true → (a || b) ≡ true
second true b e = refl
second false b e = e

stranger_at : (b : Bool) (l : List ℕ) (d : Data) (ms : Members) → is_member_name l ≡ b → (b && are_known ms) ≡ false → (are_known ms ≡ false → Stranger ms) → Stranger (member l d ms)
stranger_at true l d ms is e more =
    let s = more e in
    (s.0, s.1, second (bytes_eq s.0 l) (present s.0 ms) s.2)
stranger_at false l d ms is e more = (l, is, ap (λ b. b || present l ms) ((bytes_eq-Decides l l).1 refl))

stranger : (ms : Members) → are_known ms ≡ false → Stranger ms
stranger no_members e = absurd (false≢true (sym e))
stranger (member l d ms) e = stranger_at (is_member_name l) l d ms refl e (stranger ms)

differs : (q k : List ℕ) (b : Bool) → bytes_eq q k ≡ b → is_member_name q ≡ true → is_member_name k ≡ false → b ≡ false
differs q k false is known unknown = refl
differs q k true is known unknown = absurd (false≢true (sym unknown ∙ ap is_member_name (sym ((bytes_eq-Decides q k).0 is)) ∙ known))

all_differ : (k : List ℕ) (ks : List (List ℕ)) → is_member_name k ≡ false → list_all is_member_name ks ≡ true → list_any (λ q. bytes_eq q k) ks ≡ false
all_differ k [] unknown known = refl
all_differ k (q ∷ ks) unknown known =
    let parts = and_true (is_member_name q) _ known in
    ap₂ (λ a b. a || b) (differs q k (bytes_eq q k) refl parts.0 unknown) (all_differ k ks unknown parts.1)

one_more : (ks : List (List ℕ)) (ms : Members) → are_known ms ≡ false → distinct ks ≡ true → list_all is_member_name ks ≡ true → list_all (λ k. present k ms) ks ≡ true → length ks < count_of ms
one_more ks ms unknown apart known e =
    let s = stranger ms unknown in
    let fit = names_fit (s.0 ∷ ks) ms (both _ _ (ap not (all_differ s.0 ks s.1 known)) apart) (both _ _ s.2 e) in
    omega (arith, fit)

-- ---- no request has an unknown member

then_some : {A B : Type 0} (f : A → Option B) (x : Option A) → is_some (option_and_then f x) ≡ true → is_some x ≡ true
then_some f None e = e
then_some f (Some a) e = refl

map_some : {A B : Type 0} (f : A → B) (x : Option A) → is_some (option_map f x) ≡ true → is_some x ≡ true
map_some f None e = e
map_some f (Some a) e = refl

two_some : {A B T : Type 0} (made : A → B → T) (a : Option A) (b : Option B) → is_some (with_two made a b) ≡ (is_some a && is_some b)
two_some made None b = refl
two_some made (Some x) None = refl
two_some made (Some x) (Some y) = refl

three_some : {A B C T : Type 0} (made : A → B → C → T) (a : Option A) (b : Option B) (c : Option C) → is_some (with_three made a b c) ≡ (is_some a && (is_some b && is_some c))
three_some made None b c = refl
three_some made (Some x) b c = two_some (made x) b c

four_some : {A B C D T : Type 0} (made : A → B → C → D → T) (a : Option A) (b : Option B) (c : Option C) (d : Option D) → is_some (with_four made a b c d) ≡ (is_some a && (is_some b && (is_some c && is_some d)))
four_some made None b c d = refl
four_some made (Some x) b c d = three_some (made x) b c d

row_at : {T : Type 0} (w c : Bool) (here after : Option T) → (c ≡ true → here ≡ None) → after ≡ None → (if w && c then here else after) ≡ None
row_at false c here after gone none = none
row_at true false here after gone none = none
row_at true true here after gone none = gone refl

module _ (ms : Members) where
  get_some : (k : List ℕ) → is_some (get_member k ms) ≡ true → present k ms ≡ true
  get_some k e = sym (found_present k ms) ∙ e

  text_some : (k : List ℕ) → is_some (text_at k (object ms)) ≡ true → present k ms ≡ true
  unfolding text_at
  text_some k e = get_some k (then_some as_str (get_member k ms) e)

  name_some : (k : List ℕ) → is_some (name_at k (object ms)) ≡ true → present k ms ≡ true
  unfolding name_at
  name_some k e = text_some k (then_some (passing is_name) (text_at k (object ms)) e)

  flag_some : (k : List ℕ) → is_some (flag_at k (object ms)) ≡ true → present k ms ≡ true
  unfolding flag_at
  flag_some k e = get_some k (then_some as_bool (get_member k ms) e)

  number_some : (least most : ℕ) (k : List ℕ) → is_some (number_within least most k (object ms)) ≡ true → present k ms ≡ true
  unfolding number_within
  number_some least most k e = get_some k (then_some as_number (get_member k ms) (then_some as_u64 _ (then_some (passing (is_within least most)) (number_at k (object ms)) e)))

  word_some : is_some (word_in (object ms)) ≡ true → present (codes "sw") ms ≡ true
  unfolding word_in
  word_some e = text_some (codes "sw") (then_some (passing is_word) (text_at (codes "sw") (object ms)) (map_some (digits_value 16) _ e))

  module _ (unknown : are_known ms ≡ false) (asked : present (codes "do") ms ≡ true) where
    -- a request whose names are found needs one more member for the unknown name
    refused : {T : Type 0} (o : Option T) (ks : List (List ℕ)) → distinct ks ≡ true → list_all is_member_name ks ≡ true → (is_some o ≡ true → list_all (λ k. present k ms) ks ≡ true) → length ks ≡ count_of ms → o ≡ None
    refused None ks apart known found count = refl
    refused (Some x) ks apart known found count = absurd (omega (arith, one_more ks ms unknown apart known (found refl)))

    no_product : count_of ms ≡ 5 → product_in (object ms) ≡ None
    unfolding product_in is_member_name
    no_product count =
        refused (product_in (object ms)) (codes "do" ∷ codes "product" ∷ codes "max" ∷ codes "low" ∷ codes "check" ∷ []) refl refl
        (λ e.
        let a = and_true _ _ (sym (four_some _ (name_at (codes "product") (object ms)) (number_within 16 255 (codes "max") (object ms)) (number_within 0 31 (codes "low") (object ms)) (flag_at (codes "check") (object ms))) ∙ e) in
        let b = and_true _ _ a.1 in
        let c = and_true _ _ b.1 in
        both _ _ asked (both _ _ (name_some (codes "product") a.0) (both _ _ (number_some 16 255 (codes "max") b.0) (both _ _ (number_some 0 31 (codes "low") c.0) (both _ _ (flag_some (codes "check") c.1) refl)))))
        (sym count)

    no_lot : count_of ms ≡ 5 → lot_in (object ms) ≡ None
    unfolding lot_in is_member_name
    no_lot count =
        refused (lot_in (object ms)) (codes "do" ∷ codes "lot" ∷ codes "product" ∷ codes "first" ∷ codes "count" ∷ []) refl refl
        (λ e.
        let a =
        and_true _ _
        (sym (four_some _ (name_at (codes "lot") (object ms)) (name_at (codes "product") (object ms)) (number_within 0 999999999999999999 (codes "first") (object ms)) (number_within 1 1000000 (codes "count") (object ms)))
        ∙ then_some _ _ (map_some _ _ e)) in
        let b = and_true _ _ a.1 in
        let c = and_true _ _ b.1 in
        both _ _ asked (both _ _ (name_some (codes "lot") a.0) (both _ _ (name_some (codes "product") b.0) (both _ _ (number_some 0 999999999999999999 (codes "first") c.0) (both _ _ (number_some 1 1000000 (codes "count") c.1) refl)))))
        (sym count)

    no_open : count_of ms ≡ 3 → open_in (object ms) ≡ None
    unfolding open_in is_member_name
    no_open count =
        refused (open_in (object ms)) (codes "do" ∷ codes "batch" ∷ codes "blank" ∷ []) refl refl
        (λ e.
        let a = and_true _ _ (sym (two_some _ (name_at (codes "batch") (object ms)) (number_within 0 999999999999999999 (codes "blank") (object ms))) ∙ e) in
        both _ _ asked (both _ _ (name_some (codes "batch") a.0) (both _ _ (number_some 0 999999999999999999 (codes "blank") a.1) refl)))
        (sym count)

    no_answer : count_of ms ≡ 4 → answer_in (object ms) ≡ None
    unfolding answer_in is_member_name
    no_answer count =
        refused (answer_in (object ms)) (codes "do" ∷ codes "session" ∷ codes "index" ∷ codes "sw" ∷ []) refl refl
        (λ e.
        let a = and_true _ _ (sym (three_some _ (number_within 1 999999999999999999 (codes "session") (object ms)) (number_within 0 4294967295 (codes "index") (object ms)) (word_in (object ms))) ∙ e) in
        let b = and_true _ _ a.1 in
        both _ _ asked (both _ _ (number_some 1 999999999999999999 (codes "session") a.0) (both _ _ (number_some 0 4294967295 (codes "index") b.0) (both _ _ (word_some b.1) refl))))
        (sym count)

    no_abort : count_of ms ≡ 2 → abort_in (object ms) ≡ None
    unfolding abort_in is_member_name
    no_abort count =
        refused (abort_in (object ms)) (codes "do" ∷ codes "session" ∷ []) refl refl
        (λ e. both _ _ asked (both _ _ (number_some 1 999999999999999999 (codes "session") (map_some _ _ e)) refl)) (sym count)

    no_reset : count_of ms ≡ 1 → {T : Type 0} (o : Option T) → o ≡ None
    unfolding is_member_name
    no_reset count o = refused o (codes "do" ∷ []) refl refl (λ e. both _ _ asked refl) (sym count)

    no_discard : count_of ms ≡ 2 → discard_in (object ms) ≡ None
    unfolding discard_in is_member_name
    no_discard count =
        refused (discard_in (object ms)) (codes "do" ∷ codes "blank" ∷ []) refl refl
        (λ e. both _ _ asked (both _ _ (number_some 0 999999999999999999 (codes "blank") (map_some _ _ e)) refl)) (sym count)

    two_names : (made : List ℕ → List ℕ → Request) → is_some (with_two made (name_at (codes "batch") (object ms)) (name_at (codes "record") (object ms))) ≡ true
        → list_all (λ k. present k ms) (codes "do" ∷ codes "batch" ∷ codes "record" ∷ []) ≡ true
    two_names made e =
        let a = and_true _ _ (sym (two_some made (name_at (codes "batch") (object ms)) (name_at (codes "record") (object ms))) ∙ e) in
        both _ _ asked (both _ _ (name_some (codes "batch") a.0) (both _ _ (name_some (codes "record") a.1) refl))

    no_remake : count_of ms ≡ 3 → remake_in (object ms) ≡ None
    unfolding remake_in is_member_name
    no_remake count = refused (remake_in (object ms)) (codes "do" ∷ codes "batch" ∷ codes "record" ∷ []) refl refl (two_names _) (sym count)

    no_withdraw : count_of ms ≡ 3 → withdraw_in (object ms) ≡ None
    unfolding withdraw_in is_member_name
    no_withdraw count = refused (withdraw_in (object ms)) (codes "do" ∷ codes "batch" ∷ codes "record" ∷ []) refl refl (two_names _) (sym count)

    no_close : count_of ms ≡ 2 → close_in (object ms) ≡ None
    unfolding close_in is_member_name
    no_close count =
        refused (close_in (object ms)) (codes "do" ∷ codes "batch" ∷ []) refl refl
        (λ e. both _ _ asked (both _ _ (name_some (codes "batch") (map_some _ _ e)) refl)) (sym count)

    no_release : count_of ms ≡ 2 → release_in (object ms) ≡ None
    unfolding release_in is_member_name
    no_release count =
        refused (release_in (object ms)) (codes "do" ∷ codes "upto" ∷ []) refl refl
        (λ e. both _ _ asked (both _ _ (number_some 1 999999999999999999 (codes "upto") (map_some _ _ e)) refl)) (sym count)

    -- a row of the table: its word and its number of members, or the rows after it
    row : {T : Type 0} (w : Bool) (n : ℕ) (here after : Option T) → (count_of ms ≡ n → here ≡ None) → after ≡ None → (if w && (count_of ms == n) then here else after) ≡ None
    row w n here after gone none = row_at w (count_of ms == n) here after (λ e. gone (eqb-true (count_of ms) n e)) none

    no_request : (word : List ℕ) → request_by_word word (count_of ms) (object ms) ≡ None
    unfolding request_by_word
    no_request word =
        row _ 5 _ _ no_product
        (row _ 5 _ _ no_lot
        (row _ 3 _ _ no_open
        (row _ 4 _ _ no_answer
        (row _ 2 _ _ no_abort
        (row _ 1 _ _ (λ count. no_reset count _) (row _ 2 _ _ no_discard (row _ 3 _ _ no_remake (row _ 3 _ _ no_withdraw (row _ 2 _ _ no_close refl)))))))))

    no_call : (word : List ℕ) → call_by_word word (count_of ms) (object ms) ≡ None
    unfolding call_by_word
    no_call word = row _ 2 _ _ no_release (ap (option_map _) (no_request word))

word_refused : (ms : Members) → are_known ms ≡ false → (text : Option (List ℕ)) → (is_some text ≡ true → present (codes "do") ms ≡ true)
    → option_and_then (λ word. call_by_word word (count_of ms) (object ms)) text ≡ None
word_refused ms unknown None asked = refl
word_refused ms unknown (Some word) asked = no_call ms unknown (asked refl) word

unknown_refused : (ms : Members) → are_known ms ≡ false → call_of_value (object ms) ≡ None
unfolding call_of_value
unknown_refused ms unknown = word_refused ms unknown (text_at (codes "do") (object ms)) (text_some ms (codes "do"))

-- ---- bodies

object_call : (ms : Members) (b : Bool) → are_known ms ≡ b → option_and_then call_of_value (option_map object (known_primitives ms)) ≡ call_of_value (object ms)
object_call ms true known = ap (λ x. option_and_then call_of_value (option_map object x)) (known_some ms known) ∙ value_same ms
object_call ms false unknown = ap (λ x. option_and_then call_of_value (option_map object x)) (unknown_none ms unknown) ∙ sym (unknown_refused ms unknown)

value_call : (d : Data) → option_and_then call_of_value (option_map object (option_and_then known_primitives (as_object d))) ≡ call_of_value d
unfolding call_of_value text_at
value_call null = refl
value_call (boolean b) = refl
value_call (number n) = refl
value_call (string s) = refl
value_call (array ds) = refl
value_call (object ms) = object_call ms (are_known ms) refl

body_call : (x : Option Data) → option_and_then call_of_value (option_map object (option_and_then known_primitives (option_and_then as_object x))) ≡ option_and_then call_of_value x
body_call None = refl
body_call (Some d) = value_call d

-- the object that is read has the call of the body
pub call_of_object : (body : List ℕ) → call_in body ≡ option_and_then call_of_value (object_in body)
unfolding call_in object_in
call_of_object body = sym (body_call (value_in body))
