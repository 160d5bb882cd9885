-- Lemmas about the tokens of a body, a turn of a loop at a time, and about the members that are kept.
use Rattle.std.proofs.Common.{◌≡◌, ℕ, zero, suc, ◌-◌, ◌<◌, ◌≤◌, List, [], ◌∷◌, length, Bool, true, false, ◌&&◌, cond, Ordering, Less, Equal, Greater, nat_cmp, is_eq, Option, Some, None, option_map, option_and_then, refl, sym, ap, ◌∙◌, arith}
use Rattle.std.proofs.lemmas.Map.Text.{is_eq-slice_cmp}
use Rattle.std.proofs.lemmas.Bool.{false≢true}
use Rattle.std.proofs.lemmas.Slice.Eq.{bytes_eq-Decides}
use Rattle.std.specs.Prelude.{IsUtf8}
use Rattle.std.specs.Cmp.Lexicographic.{slice_cmp}
use Rattle.std.specs.Ordering.{match_ordering}
use Rattle.std.proofs.lemmas.Str.{is_utf8-from_IsUtf8}
use Rattle.json.specs.Token.{Token}
use Rattle.json.specs.Lex.{tokens}
use Rattle.json.specs.Json as json
use Rattle.json.specs.Json.{Parse, parse_map, after_end_array, read_key, items_step, members_step, items, members, value_with, if_last}
use Rattle.json.proofs.Grammar.{items_end, members_end, members_no_key, value_is, value-begin_array, value-begin_object}
use Rattle.serde_json.specs.Data.{Data, null, boolean, number, string, array, object, Num, Items, no_items, item, Members, no_members, member, put}
use Rattle.serde_json.specs.Find.{as_object}
use Rattle.serde_json.specs.Read.{of_json, of_items, of_members, converted, number_of, read}
use Rattle.http_requests.specs.Members.{value_in}
use Rattle.http_requests.proofs.RequestLemmas.{value_in-unread}
use Rattle.http_requests.specs.Bodies.{are_known, begins_object, is_member_name, items_at, known_primitives, members_at, object_in, primitive_of, primitives_of, value_at}

-- ---- conversions of what was parsed

abbrev pub Parsed : Type 0 → Type 0
Parsed A = Option (A × List Token)

converted-parse_map : {A B C : Type 0} (f : B → Option C) (g : A → B) (o : Parsed A) → converted f (parse_map g o) ≡ converted (λ a. f (g a)) o
converted-parse_map f g None = refl
converted-parse_map f g (Some p) = refl

some_of : {A B : Type 0} (h : A → B) (x : Option A) (r : List Token) → option_map (λ b. (b, r)) (option_map h x) ≡ parse_map h (option_map (λ a. (a, r)) x)
some_of h None r = refl
some_of h (Some a) r = refl

mapped : {A B C : Type 0} (f : A → Option B) (h : B → C) (o : Parsed A) → converted (λ a. option_map h (f a)) o ≡ parse_map h (converted f o)
mapped f h None = refl
mapped f h (Some p) = some_of h (f p.0) p.1

never : {A B : Type 0} (o : Parsed A) → converted {B = B} (λ a. None) o ≡ None
never None = refl
never (Some p) = refl

pub parse_map_twice : {A B C : Type 0} (f : B → C) (g : A → B) (o : Parsed A) → parse_map f (parse_map g o) ≡ parse_map (λ a. f (g a)) o
parse_map_twice f g None = refl
parse_map_twice f g (Some p) = refl

pub parse_map_same : {A : Type 0} (o : Parsed A) → o ≡ parse_map (λ a. a) o
parse_map_same None = refl
parse_map_same (Some p) = refl

abbrev first_or : {A : Type 0} → A → Option A → A
first_or d None = d
first_or d (Some a) = a

-- what was mapped was there
pub parse_map_some : {A B : Type 0} (f : A → B) (o : Parsed A) (b : B) (r : List Token) → parse_map f o ≡ Some (b, r) → (a : A) × (o ≡ Some (a, r)) × (f a ≡ b)
parse_map_some f None b r e = absurd (cc)
parse_map_some f (Some p) b r e = let same = ap (first_or (b, r)) e in (p.0, ap (λ q. Some (p.0, q.1)) same, ap (λ q. q.0) same)

pub converted-array : (o : Parsed json.Items) → converted of_json (parse_map json.array o) ≡ parse_map array (converted of_items o)
converted-array o = converted-parse_map of_json json.array o ∙ mapped of_items array o

pub converted-object : (o : Parsed json.Members) → converted of_json (parse_map json.object o) ≡ parse_map object (converted (λ ms. of_members ms no_members) o)
converted-object o = converted-parse_map of_json json.object o ∙ mapped (λ ms. of_members ms no_members) object o

-- ---- the value at each token

pub at_end : (depth : ℕ) → value_at depth [] ≡ None
unfolding value_at
at_end depth = ap (converted of_json) (value_is depth [])

pub at_null : (depth : ℕ) (ts : List Token) → value_at depth (Token.null ∷ ts) ≡ Some (null, ts)
unfolding value_at
at_null depth ts = ap (converted of_json) (value_is depth (Token.null ∷ ts))

pub at_boolean : (depth : ℕ) (b : Bool) (ts : List Token) → value_at depth (Token.boolean b ∷ ts) ≡ Some (boolean b, ts)
unfolding value_at
at_boolean depth b ts = ap (converted of_json) (value_is depth (Token.boolean b ∷ ts))

pub at_string : (depth : ℕ) (s : List ℕ) (ts : List Token) → value_at depth (Token.string s ∷ ts) ≡ Some (string s, ts)
unfolding value_at
at_string depth s ts = ap (converted of_json) (value_is depth (Token.string s ∷ ts))

pub at_number : (depth : ℕ) (s : List ℕ) (ts : List Token) → value_at depth (Token.number s ∷ ts) ≡ parse_map number (option_map (λ x. (x, ts)) (number_of s))
unfolding value_at
at_number depth s ts = ap (converted of_json) (value_is depth (Token.number s ∷ ts)) ∙ some_of number (number_of s) ts

pub at_array : (depth : ℕ) (ts : List Token) → 0 < depth → value_at depth (Token.begin_array ∷ ts) ≡ parse_map array (items_at (depth - 1) ts)
unfolding value_at items_at
at_array depth ts some = ap (converted of_json) (value-begin_array depth ts some) ∙ converted-array (items (json.value (depth - 1)) (length ts) ts)

pub at_object : (depth : ℕ) (ts : List Token) → 0 < depth → value_at depth (Token.begin_object ∷ ts) ≡ parse_map object (members_at (depth - 1) ts)
unfolding value_at members_at
at_object depth ts some = ap (converted of_json) (value-begin_object depth ts some) ∙ converted-object (members (json.value (depth - 1)) (length ts) ts)

pub at_deep_array : (ts : List Token) → value_at 0 (Token.begin_array ∷ ts) ≡ None
unfolding value_at
at_deep_array ts = ap (converted of_json) (value_is 0 (Token.begin_array ∷ ts))

pub at_deep_object : (ts : List Token) → value_at 0 (Token.begin_object ∷ ts) ≡ None
unfolding value_at
at_deep_object ts = ap (converted of_json) (value_is 0 (Token.begin_object ∷ ts))

-- ---- a turn of the loop over an array

item_value : (x : Option Data) (r : List Token) (more : Parse json.Items)
    → converted (λ js. option_and_then (λ d. option_map (item d) (of_items js)) x) (more r) ≡ option_and_then (λ (q : Data × List Token). parse_map (item q.0) (converted of_items (more q.1))) (option_map (λ d. (d, r)) x)
item_value None r more = never (more r)
item_value (Some d) r more = mapped of_items (item d) (more r)

item_turn : (o : Parsed json.Json) (more : Parse json.Items)
    → converted of_items (option_and_then (λ (q : json.Json × List Token). parse_map (json.item q.0) (more q.1)) o) ≡ option_and_then (λ (q : Data × List Token). parse_map (item q.0) (converted of_items (more q.1))) (converted of_json o)
item_turn None more = refl
item_turn (Some q) more = converted-parse_map of_items (json.item q.0) (more q.1) ∙ item_value (of_json q.0) q.1 more

module _ (p : Parse json.Json) where
  items_more : (n : ℕ) (ts : List Token) → after_end_array ts ≡ None
      → converted of_items (items p (suc n) ts) ≡ option_and_then (λ (q : Data × List Token). parse_map (item q.0) (converted of_items (items p n q.1))) (converted of_json (p ts))
  unfolding items
  items_more n ts going = ap (λ o. converted of_items (items_step p (items p n) ts o)) going ∙ item_turn (p ts) (items p n)

  pub item_read : (n : ℕ) (ts r : List Token) (d : Data) → 0 < n → after_end_array ts ≡ None → converted of_json (p ts) ≡ Some (d, r)
      → converted of_items (items p n ts) ≡ parse_map (item d) (converted of_items (items p (n - 1) r))
  item_read zero ts r d some going e = absurd (omega arith)
  item_read (suc n) ts r d some going e =
      let less : n ≡ suc n - 1 = omega arith in
      items_more n ts going ∙ ap (option_and_then (λ (q : Data × List Token). parse_map (item q.0) (converted of_items (items p n q.1)))) e ∙ ap (λ m. parse_map (item d) (converted of_items (items p m r))) less

  pub item_refused : (n : ℕ) (ts : List Token) → after_end_array ts ≡ None → converted of_json (p ts) ≡ None → converted of_items (items p n ts) ≡ None
  unfolding items
  item_refused zero ts going e = refl
  item_refused (suc n) ts going e = items_more n ts going ∙ ap (option_and_then (λ (q : Data × List Token). parse_map (item q.0) (converted of_items (items p n q.1)))) e

  pub items_over : (n : ℕ) (ts r : List Token) → length ts ≤ n → after_end_array ts ≡ Some r → converted of_items (items p n ts) ≡ Some (no_items, r)
  items_over n ts r enough e = ap (converted of_items) (items_end p n ts r enough e)

-- ---- a turn of the loop over an object

member_value : (old : Members) (k : List ℕ) (x : Option Data) (r : List Token) (more : Parse json.Members)
    → converted (λ ms. option_and_then (λ d. of_members ms (put k d old)) x) (more r)
    ≡ option_and_then (λ (q : Data × List Token). converted (λ ms. of_members ms (put k q.0 old)) (more q.1)) (option_map (λ d. (d, r)) x)
member_value old k None r more = never (more r)
member_value old k (Some d) r more = refl

member_turn : (old : Members) (k : List ℕ) (o : Parsed json.Json) (more : Parse json.Members)
    → converted (λ ms. of_members ms old) (option_and_then (λ (q : json.Json × List Token). parse_map (json.member k q.0) (more q.1)) o)
    ≡ option_and_then (λ (q : Data × List Token). converted (λ ms. of_members ms (put k q.0 old)) (more q.1)) (converted of_json o)
member_turn old k None more = refl
member_turn old k (Some q) more = converted-parse_map (λ ms. of_members ms old) (json.member k q.0) (more q.1) ∙ member_value old k (of_json q.0) q.1 more

module _ (p : Parse json.Json) (old : Members) where
  members_more : (n : ℕ) (k : List ℕ) (ts s : List Token) → read_key ts ≡ Some (Some k, s)
      → converted (λ ms. of_members ms old) (members p (suc n) ts) ≡ option_and_then (λ (q : Data × List Token). converted (λ ms. of_members ms (put k q.0 old)) (members p n q.1)) (converted of_json (p s))
  unfolding members
  members_more n k ts s key =
      ap (λ o. converted (λ ms. of_members ms old) (option_and_then (λ q. members_step p (members p n) q.0 q.1) o)) key ∙ member_turn old k (p s) (members p n)

  pub member_read : (n : ℕ) (k : List ℕ) (ts s r : List Token) (d : Data) → 0 < n → read_key ts ≡ Some (Some k, s) → converted of_json (p s) ≡ Some (d, r)
      → converted (λ ms. of_members ms old) (members p n ts) ≡ converted (λ ms. of_members ms (put k d old)) (members p (n - 1) r)
  member_read zero k ts s r d some key e = absurd (omega arith)
  member_read (suc n) k ts s r d some key e =
      let less : n ≡ suc n - 1 = omega arith in
      members_more n k ts s key ∙ ap (option_and_then (λ (q : Data × List Token). converted (λ ms. of_members ms (put k q.0 old)) (members p n q.1))) e
      ∙ ap (λ m. converted (λ ms. of_members ms (put k d old)) (members p m r)) less

  pub member_refused : (n : ℕ) (k : List ℕ) (ts s : List Token) → read_key ts ≡ Some (Some k, s) → converted of_json (p s) ≡ None → converted (λ ms. of_members ms old) (members p n ts) ≡ None
  unfolding members
  member_refused zero k ts s key e = refl
  member_refused (suc n) k ts s key e = members_more n k ts s key ∙ ap (option_and_then (λ (q : Data × List Token). converted (λ ms. of_members ms (put k q.0 old)) (members p n q.1))) e

  pub key_refused : (n : ℕ) (ts : List Token) → read_key ts ≡ None → converted (λ ms. of_members ms old) (members p n ts) ≡ None
  key_refused n ts e = ap (converted (λ ms. of_members ms old)) (members_no_key p n ts e)

  pub members_over : (n : ℕ) (ts r : List Token) → length ts ≤ n → read_key ts ≡ Some (None, r) → converted (λ ms. of_members ms old) (members p n ts) ≡ Some (old, r)
  members_over n ts r enough e = ap (converted (λ ms. of_members ms old)) (members_end p n ts r enough e)

-- ---- members with known names

primitives_of-match : (o : Ordering) (a b c : Members) → primitives_of (match_ordering o a b c) ≡ match_ordering o (primitives_of a) (primitives_of b) (primitives_of c)
primitives_of-match Less a b c = refl
primitives_of-match Equal a b c = refl
primitives_of-match Greater a b c = refl

pub primitives_of-put : (k : List ℕ) (d : Data) (ms : Members) → primitives_of (put k d ms) ≡ put k (primitive_of d) (primitives_of ms)
primitives_of-put k d no_members = refl
primitives_of-put k d (member l e ms) =
    primitives_of-match (slice_cmp nat_cmp k l) (member k d (member l e ms)) (member l d ms) (member l e (put k d ms))
    ∙ ap (λ more. match_ordering (slice_cmp nat_cmp k l) (member k (primitive_of d) (member l (primitive_of e) (primitives_of ms))) (member l (primitive_of d) (primitives_of ms)) (member l (primitive_of e) more))
    (primitives_of-put k d ms)

are_known-match : (o : Ordering) (a b c : Members) (known : Bool) → are_known a ≡ known → are_known b ≡ known → are_known c ≡ known → are_known (match_ordering o a b c) ≡ known
are_known-match Less a b c known x y z = x
are_known-match Equal a b c known x y z = y
are_known-match Greater a b c known x y z = z

pub and_true : (a b : Bool) → (a && b) ≡ true → (a ≡ true) × (b ≡ true)
and_true true true e = (refl, refl)
and_true true false e = (refl, e)
and_true false b e = (e, absurd (false≢true e))

pub both : (a b : Bool) → a ≡ true → b ≡ true → (a && b) ≡ true
both a b x y = rw (x, y) refl

-- a known name keeps the members known
pub known_put : (k : List ℕ) (d : Data) (ms : Members) → is_member_name k ≡ true → are_known ms ≡ true → are_known (put k d ms) ≡ true
known_put k d no_members name known = both _ _ name refl
known_put k d (member l e ms) name known =
    let parts = and_true (is_member_name l) (are_known ms) known in
    are_known-match (slice_cmp nat_cmp k l) _ _ _ true (both _ _ name known) known (both _ _ parts.0 (known_put k d ms name parts.1))

right_false : (a b : Bool) → b ≡ false → (a && b) ≡ false
right_false true b e = e
right_false false b e = refl

left_false : (a b : Bool) → a ≡ false → (a && b) ≡ false
left_false a b e = ap (λ x. x && b) e

either_false : (a b c : Bool) → (a && b) ≡ false → (b ≡ false → c ≡ false) → (a && c) ≡ false
either_false true b c e more = more e
either_false false b c e more = refl

-- a member that no request has stays
pub unknown_stays : (k : List ℕ) (d : Data) (ms : Members) → are_known ms ≡ false → are_known (put k d ms) ≡ false
unknown_stays k d no_members unknown = absurd (false≢true (sym unknown))
unknown_stays k d (member l e ms) unknown =
    are_known-match (slice_cmp nat_cmp k l) _ _ _ false (right_false (is_member_name k) _ unknown) unknown (either_false (is_member_name l) (are_known ms) _ unknown (λ e. unknown_stays k d ms e))

unknown_put_at : (o : Ordering) (k l : List ℕ) (d e : Data) (ms : Members) → slice_cmp nat_cmp k l ≡ o → is_member_name k ≡ false → are_known (put k d ms) ≡ false
    → are_known (match_ordering o (member k d (member l e ms)) (member l d ms) (member l e (put k d ms))) ≡ false
unknown_put_at Less k l d e ms is unknown later = left_false _ _ unknown
unknown_put_at Equal k l d e ms is unknown later =
    let same : k ≡ l = (bytes_eq-Decides k l).0 (sym (is_eq-slice_cmp k l) ∙ ap is_eq is) in
    left_false _ _ (ap is_member_name (sym same) ∙ unknown)
unknown_put_at Greater k l d e ms is unknown later = right_false (is_member_name l) _ later

pub unknown_put : (k : List ℕ) (d : Data) (ms : Members) → is_member_name k ≡ false → are_known (put k d ms) ≡ false
unknown_put k d no_members unknown = left_false _ _ unknown
unknown_put k d (member l e ms) unknown = unknown_put_at _ k l d e ms refl unknown (unknown_put k d ms unknown)

pub known_some : (ms : Members) → are_known ms ≡ true → known_primitives ms ≡ Some (primitives_of ms)
unfolding known_primitives
known_some ms known = ap (λ b. cond b (Some (primitives_of ms)) None) known

pub unknown_none : (ms : Members) → are_known ms ≡ false → known_primitives ms ≡ None
unfolding known_primitives
unknown_none ms unknown = ap (λ b. cond b (Some (primitives_of ms)) None) unknown

none_after : (x : Option Data) (f : Data → Option Members) → ((d : Data) → option_and_then known_primitives (f d) ≡ None) → option_and_then known_primitives (option_and_then f x) ≡ None
none_after None f none = refl
none_after (Some d) f none = none d

-- whatever follows a member that no request has, the body is refused
unknown_members : (ms : json.Members) (old : Members) → are_known old ≡ false → option_and_then known_primitives (of_members ms old) ≡ None
unknown_members json.no_members old unknown = unknown_none old unknown
unknown_members (json.member k j ms) old unknown = none_after (of_json j) (λ d. of_members ms (put k d old)) (λ d. unknown_members ms (put k d old) (unknown_stays k d old unknown))

converted_none : (x : Option Members) (r : List Token) → option_and_then known_primitives x ≡ None → converted known_primitives (option_map (λ b. (b, r)) x) ≡ None
converted_none None r e = refl
converted_none (Some ms) r e = ap (option_map (λ b. (b, r))) e

unknown_rest : (old : Members) (o : Parsed json.Members) → are_known old ≡ false → converted known_primitives (converted (λ ms. of_members ms old) o) ≡ None
unknown_rest old None unknown = refl
unknown_rest old (Some p) unknown = converted_none (of_members p.0 old) p.1 (unknown_members p.0 old unknown)

unknown_after : (x : Parsed Data) (old : Members) (k : List ℕ) (more : Parse json.Members) → is_member_name k ≡ false
    → converted known_primitives (option_and_then (λ (q : Data × List Token). converted (λ ms. of_members ms (put k q.0 old)) (more q.1)) x) ≡ None
unknown_after None old k more unknown = refl
unknown_after (Some q) old k more unknown = unknown_rest (put k q.0 old) (more q.1) (unknown_put k q.0 old unknown)

pub name_refused : (p : Parse json.Json) (old : Members) (n : ℕ) (k : List ℕ) (ts s : List Token) → read_key ts ≡ Some (Some k, s) → is_member_name k ≡ false
    → converted known_primitives (converted (λ ms. of_members ms old) (members p n ts)) ≡ None
unfolding members
name_refused p old zero k ts s key unknown = refl
name_refused p old (suc n) k ts s key unknown = ap (converted known_primitives) (members_more p old n k ts s key) ∙ unknown_after (converted of_json (p s)) old k (members p n) unknown

-- ---- whole texts

abbrev pub whole : Parsed json.Json → Option Data
whole o = option_and_then of_json (option_and_then (λ p. if_last p.0 p.1) o)

-- the members, if no token follows
abbrev pub if_done : Members → List Token → Option Members
if_done ms [] = Some ms
if_done ms (t ∷ ts) = None

abbrev pub done : Parsed Members → Option Members
done o = option_and_then (λ p. if_done p.0 p.1) o

done_all : (x : Option Members) → done (option_map (λ b. (b, [])) x) ≡ x
done_all None = refl
done_all (Some ms) = refl

done_not : (x : Option Members) (t : Token) (r : List Token) → done (option_map (λ b. (b, t ∷ r)) x) ≡ None
done_not None t r = refl
done_not (Some ms) t r = refl

abbrev wanted : json.Json → List Token → Option Members
wanted j r = option_and_then known_primitives (option_and_then as_object (option_and_then of_json (if_last j r)))

none_wanted : (j : json.Json) (r : List Token) → of_json j ≡ None → wanted j r ≡ None
none_wanted j [] none = ap (λ x. option_and_then known_primitives (option_and_then as_object x)) none
none_wanted j (t ∷ r) none = refl

object_wanted : (j : json.Json) (ms : Members) (r : List Token) → of_json j ≡ Some (object ms) → wanted j r ≡ done (converted known_primitives (Some (ms, r)))
object_wanted j ms [] is = ap (λ x. option_and_then known_primitives (option_and_then as_object x)) is ∙ sym (done_all (known_primitives ms))
object_wanted j ms (t ∷ r) is = sym (done_not (known_primitives ms) t r)

parsed_wanted : (j : json.Json) (r : List Token) (x : Option Data) (m : Parsed Members) → of_json j ≡ x → option_map (λ d. (d, r)) x ≡ parse_map object m → wanted j r ≡ done (converted known_primitives m)
parsed_wanted j r None None is e = none_wanted j r is
parsed_wanted j r None (Some p) is e = absurd (cc)
parsed_wanted j r (Some d) None is e = absurd (cc)
parsed_wanted j r (Some d) (Some p) is e =
    let same = ap (first_or (d, r)) e in
    object_wanted j p.0 r (is ∙ ap (λ q. Some q.0) same) ∙ ap (λ q. done (converted known_primitives (Some (p.0, q.1)))) same

-- an object and its members
pub object_of : (o : Parsed json.Json) (m : Parsed Members) → converted of_json o ≡ parse_map object m
    → option_and_then known_primitives (option_and_then as_object (whole o)) ≡ done (converted known_primitives m)
object_of None None e = refl
object_of None (Some p) e = absurd (cc)
object_of (Some q) m e = parsed_wanted q.0 q.1 (of_json q.0) m refl e

pub object_text : (text : List ℕ) (ts : List Token) → tokens text ≡ Token.begin_object ∷ ts
    → option_and_then known_primitives (option_and_then as_object (read text)) ≡ done (converted known_primitives (members_at 126 ts))
unfolding value_at
object_text text ts first = object_of (json.value 127 (tokens text)) (members_at 126 ts) (ap (value_at 127) first ∙ at_object 127 ts (omega arith))

-- ---- texts that begin with another token

not_object : (j : json.Json) (r : List Token) → option_and_then as_object (of_json j) ≡ None → option_and_then as_object (option_and_then of_json (if_last j r)) ≡ None
not_object j [] none = none
not_object j (t ∷ r) none = refl

no_number : (x : Option Num) → option_and_then as_object (option_map number x) ≡ None
no_number None = refl
no_number (Some n) = refl

no_array : (x : Option Items) → option_and_then as_object (option_map array x) ≡ None
no_array None = refl
no_array (Some ds) = refl

array_refused : (o : Parsed json.Items) → option_and_then as_object (whole (parse_map json.array o)) ≡ None
array_refused None = refl
array_refused (Some q) = not_object (json.array q.0) q.1 (no_array (of_items q.0))

other_refused : (a : Parse json.Items) (o : Parse json.Members) (ts : List Token) → begins_object ts ≡ false → option_and_then as_object (whole (value_with a o ts)) ≡ None
other_refused a o [] e = refl
other_refused a o (Token.begin_object ∷ ts) e = absurd (false≢true (sym e))
other_refused a o (Token.end_object ∷ ts) e = refl
other_refused a o (Token.begin_array ∷ ts) e = array_refused (a ts)
other_refused a o (Token.end_array ∷ ts) e = refl
other_refused a o (Token.key s ∷ ts) e = refl
other_refused a o (Token.string s ∷ ts) e = not_object (json.string s) ts refl
other_refused a o (Token.number s ∷ ts) e = not_object (json.number s) ts (no_number (number_of s))
other_refused a o (Token.boolean b ∷ ts) e = not_object (json.boolean b) ts refl
other_refused a o (Token.null ∷ ts) e = not_object json.null ts refl
other_refused a o (Token.bad ∷ ts) e = refl

pub no_object_text : (text : List ℕ) → begins_object (tokens text) ≡ false → option_and_then known_primitives (option_and_then as_object (read text)) ≡ None
no_object_text text e =
    ap (λ o. option_and_then known_primitives (option_and_then as_object (whole o))) (value_is 127 (tokens text)) ∙ ap (option_and_then known_primitives) (other_refused _ _ (tokens text) e)

-- ---- bodies

abbrev wanted_of : Option Data → Option Data
wanted_of x = option_map object (option_and_then known_primitives (option_and_then as_object x))

pub object_in-read : (body : List ℕ) → IsUtf8 body → object_in body ≡ option_map object (option_and_then known_primitives (option_and_then as_object (read body)))
unfolding object_in value_in
object_in-read body text = ap (λ b. wanted_of (cond b (read body) None)) (is_utf8-from_IsUtf8 body text)

pub object_in-unread : (body : List ℕ) → (IsUtf8 body → ⊥) → object_in body ≡ None
unfolding object_in
object_in-unread body other = ap wanted_of (value_in-unread body (λ text. absurd (other text)))
