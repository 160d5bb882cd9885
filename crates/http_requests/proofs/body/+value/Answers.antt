use Rattle.std.proofs.Common.{◌≡◌, ◌-◌, ◌<◌, [], ◌∷◌, length, Some, None, option_map, refl, sym, ap, ap₂, ◌∙◌, arith}
use Rattle.json.specs.Token.{Token}
use Rattle.json.specs.Json.{parse_map, after_end_array, read_key, value}
use Rattle.json.specs.Reads.{token_of}
use Rattle.json.proofs.Grammar.{value_is, read_key-shorter}
use Rattle.serde_json.specs.Data.{array, object, number, item, no_items, no_members, put}
use Rattle.serde_json.specs.Read.{of_json, converted}
use Rattle.http_requests.specs.Bodies.{items_at, members_at, primitive_of, primitive_view, value_at}
use Rattle.http_requests.proofs.BodyLemmas.{at_end, at_null, at_boolean, at_string, at_number, at_array, at_object, at_deep_array, at_deep_object, item_read, item_refused, items_over, member_read, member_refused, key_refused, members_over, parse_map_same, parse_map_some, parse_map_twice}
use Rattle.http_requests.proofs.body.+value.Goals as goal

pub read_primitive-returns-in_err-token-clause-value : goal.read_primitive-returns-in_err-token-clause-value
read_primitive-returns-in_err-token-clause-value t c =
    let empty : c.args.reader.now ≡ [] = grind arith in
    let none : value_at c.args.depth c.args.reader.now ≡ None = ap (value_at c.args.depth) empty ∙ at_end c.args.depth in
    grind (arith, none)

pub read_primitive-returns-in-Null-clause-value : goal.read_primitive-returns-in-Null-clause-value
read_primitive-returns-in-Null-clause-value t c =
    let first : c.args.reader.now ≡ token_of c.in_ok-token.token ∷ c.next.new.self = grind arith in
    let is : c.args.reader.now ≡ Token.null ∷ c.next.new.self = grind (arith, first) in
    ap (parse_map primitive_of) (ap (value_at c.args.depth) is ∙ at_null c.args.depth _)

pub read_primitive-returns-in-Bool-clause-value : goal.read_primitive-returns-in-Bool-clause-value
read_primitive-returns-in-Bool-clause-value t c =
    let first : c.args.reader.now ≡ token_of c.in_ok-token.token ∷ c.next.new.self = grind arith in
    let is : c.args.reader.now ≡ Token.boolean c.in-Bool.flag ∷ c.next.new.self = grind (arith, first) in
    ap (parse_map primitive_of) (ap (value_at c.args.depth) is ∙ at_boolean c.args.depth _ _)

pub read_primitive-returns-in-String-clause-value : goal.read_primitive-returns-in-String-clause-value
read_primitive-returns-in-String-clause-value t c =
    let first : c.args.reader.now ≡ token_of c.in_ok-token.token ∷ c.next.new.self = grind arith in
    let is : c.args.reader.now ≡ Token.string c.in-String.text.now ∷ c.next.new.self = grind (arith, first) in
    ap (parse_map primitive_of) (ap (value_at c.args.depth) is ∙ at_string c.args.depth _ _)

pub read_primitive-returns-in-Some-clause-value : goal.read_primitive-returns-in-Some-clause-value
read_primitive-returns-in-Some-clause-value t c =
    let first : c.args.reader.now ≡ token_of c.in_ok-token.token ∷ c.next.new.self = grind arith in
    let is : c.args.reader.now ≡ Token.number c.in-Number.text.now ∷ c.next.new.self = grind (arith, first) in
    ap (parse_map primitive_of) (ap (value_at c.args.depth) is ∙ at_number c.args.depth _ _ ∙ ap (λ x. parse_map number (option_map (λ n. (n, c.next.new.self)) x)) (sym c.in-Some.ensures))

pub read_primitive-returns-in-None-clause-value : goal.read_primitive-returns-in-None-clause-value
read_primitive-returns-in-None-clause-value t c =
    let first : c.args.reader.now ≡ token_of c.in_ok-token.token ∷ c.next.new.self = grind arith in
    let is : c.args.reader.now ≡ Token.number c.in-Number.text.now ∷ c.next.new.self = grind (arith, first) in
    ap (value_at c.args.depth) is ∙ at_number c.args.depth _ _ ∙ ap (λ x. parse_map number (option_map (λ n. (n, c.next.new.self)) x)) (sym c.in-None.ensures)

pub read_primitive-returns-in-EndArray-clause-value : goal.read_primitive-returns-in-EndArray-clause-value
unfolding value_at
read_primitive-returns-in-EndArray-clause-value t c =
    let first : c.args.reader.now ≡ token_of c.in_ok-token.token ∷ c.next.new.self = grind arith in
    let none : value c.args.depth c.args.reader.now ≡ None = rw (value_is c.args.depth c.args.reader.now, first) (grind arith) in
    ap (converted of_json) none

pub read_primitive-returns-then-depth-eq0-clause-value : goal.read_primitive-returns-then-depth-eq0-clause-value
read_primitive-returns-then-depth-eq0-clause-value t c =
    let first : c.args.reader.now ≡ token_of c.in_ok-token.token ∷ c.next.new.self = grind arith in
    let is : c.args.reader.now ≡ Token.begin_array ∷ c.next.new.self = first ∙ ap (λ k. token_of k ∷ c.next.new.self) c.in-BeginArray.is in
    let none : c.args.depth ≡ 0 = omega arith in
    ap₂ value_at none is ∙ at_deep_array _

pub read_primitive-returns-then-depth-eq0-2-clause-value : goal.read_primitive-returns-then-depth-eq0-2-clause-value
read_primitive-returns-then-depth-eq0-2-clause-value t c =
    let first : c.args.reader.now ≡ token_of c.in_ok-token.token ∷ c.next.new.self = grind arith in
    let is : c.args.reader.now ≡ Token.begin_object ∷ c.next.new.self = first ∙ ap (λ k. token_of k ∷ c.next.new.self) c.in-BeginObject.is in
    let none : c.args.depth ≡ 0 = omega arith in
    ap₂ value_at none is ∙ at_deep_object _

pub read_primitive-returns-in_err-skip_items-in-BeginArray-clause-value : goal.read_primitive-returns-in_err-skip_items-in-BeginArray-clause-value
read_primitive-returns-in_err-skip_items-in-BeginArray-clause-value t c =
    let first : c.args.reader.now ≡ token_of c.in_ok-token.token ∷ c.next.new.self = grind arith in
    let is : c.args.reader.now ≡ Token.begin_array ∷ c.next.new.self = first ∙ ap (λ k. token_of k ∷ c.next.new.self) c.in-BeginArray.is in
    let none = ap (value_at c.args.depth) is ∙ at_array c.args.depth _ (omega arith) ∙ ap (parse_map array) c.in_err-skip_items-in-BeginArray.ensures.value in
    grind (arith, none)

pub read_primitive-returns-in_err-skip_members-in-BeginObject-clause-value : goal.read_primitive-returns-in_err-skip_members-in-BeginObject-clause-value
read_primitive-returns-in_err-skip_members-in-BeginObject-clause-value t c =
    let first : c.args.reader.now ≡ token_of c.in_ok-token.token ∷ c.next.new.self = grind arith in
    let is : c.args.reader.now ≡ Token.begin_object ∷ c.next.new.self = first ∙ ap (λ k. token_of k ∷ c.next.new.self) c.in-BeginObject.is in
    let none = ap (value_at c.args.depth) is ∙ at_object c.args.depth _ (omega arith) ∙ ap (parse_map object) c.in_err-skip_members-in-BeginObject.ensures.value in
    grind (arith, none)

pub read_primitive-returns-in_ok-skip_items-in-BeginArray-clause-value : goal.read_primitive-returns-in_ok-skip_items-in-BeginArray-clause-value
read_primitive-returns-in_ok-skip_items-in-BeginArray-clause-value t c =
    let first : c.args.reader.now ≡ token_of c.in_ok-token.token ∷ c.next.new.self = grind arith in
    let is : c.args.reader.now ≡ Token.begin_array ∷ c.next.new.self = first ∙ ap (λ k. token_of k ∷ c.next.new.self) c.in-BeginArray.is in
    ap (parse_map primitive_of) (ap (value_at c.args.depth) is ∙ at_array c.args.depth _ (omega arith) ∙ ap (parse_map array) c.in_ok-skip_items-in-BeginArray.ensures.value.1)

pub read_primitive-returns-in_ok-skip_members-in-BeginObject-clause-value : goal.read_primitive-returns-in_ok-skip_members-in-BeginObject-clause-value
read_primitive-returns-in_ok-skip_members-in-BeginObject-clause-value t c =
    let first : c.args.reader.now ≡ token_of c.in_ok-token.token ∷ c.next.new.self = grind arith in
    let is : c.args.reader.now ≡ Token.begin_object ∷ c.next.new.self = first ∙ ap (λ k. token_of k ∷ c.next.new.self) c.in-BeginObject.is in
    ap (parse_map primitive_of) (ap (value_at c.args.depth) is ∙ at_object c.args.depth _ (omega arith) ∙ ap (parse_map object) c.in_ok-skip_members-in-BeginObject.ensures.value.1)

pub skip_items-items-init : goal.skip_items-items-init
unfolding items_at
skip_items-items-init t c = (length c.args.reader.now, (λ ds. ds), omega arith, parse_map_same _, omega arith)

pub skip_items-items-preserved : goal.skip_items-items-preserved
unfolding value_at
skip_items-items-preserved t c =
    let p = value c.args.depth in
    let l = c.items in
    let n = l.invariant.0 in
    let before = l.invariant.1 in
    let going : (after_end_array l.reader ≡ None) × (c.take_end_array.new.self ≡ l.reader) = grind arith in
    let r = c.read_primitive.new.reader in
    let less : length r < length l.reader = rw (← going.1) c.in_ok-read_primitive.ensures.shorter in
    let done : parse_map primitive_of (value_at c.args.depth l.reader) ≡ Some (primitive_view c.in_ok-read_primitive.field-0, r) = rw (← going.1) c.in_ok-read_primitive.ensures.value in
    let got = parse_map_some primitive_of (value_at c.args.depth l.reader) (primitive_view c.in_ok-read_primitive.field-0) r done in (
      n - 1,
      (λ ds. before (item got.0 ds)),
      omega (arith, l.invariant.2),
      l.invariant.3 ∙ ap (parse_map before) (item_read p n l.reader r got.0 (omega (arith, l.invariant.2)) going.0 got.1) ∙ parse_map_twice before (item got.0) _,
      omega (arith, l.invariant.4),
    )

pub skip_items-returns-in_err-read_primitive-clause-value : goal.skip_items-returns-in_err-read_primitive-clause-value
unfolding value_at
skip_items-returns-in_err-read_primitive-clause-value t c =
    let p = value c.args.depth in
    let l = c.items in
    let n = l.invariant.0 in
    let going : (after_end_array l.reader ≡ None) × (c.take_end_array.new.self ≡ l.reader) = grind arith in
    let none = l.invariant.3 ∙ ap (parse_map l.invariant.1) (item_refused p n l.reader going.0 (rw (← going.1) c.in_err-read_primitive.ensures.value)) in
    grind (arith, none)

pub skip_items-returns-clause-value : goal.skip_items-returns-clause-value
skip_items-returns-clause-value t c =
    let p = value c.args.depth in
    let l = c.items in
    let n = l.invariant.0 in
    (l.invariant.1 no_items, l.invariant.3 ∙ ap (parse_map l.invariant.1) (items_over p n l.reader c.take_end_array.new.self l.invariant.2 (grind arith)))

pub skip_members-members-init : goal.skip_members-members-init
unfolding members_at
skip_members-members-init t c = (length c.args.reader.now, no_members, omega arith, refl, omega arith)

pub skip_members-members-preserved : goal.skip_members-members-preserved
unfolding value_at
skip_members-members-preserved t c =
    let p = value c.args.depth in
    let l = c.members in
    let n = l.invariant.0 in
    let old = l.invariant.1 in
    let k = c.in-Some.field-0.now in
    let s = c.next_key.new.self in
    let named : read_key l.reader ≡ Some (Some k, s) = grind arith in
    let less = read_key-shorter l.reader (Some k) s named in
    let r = c.read_primitive.new.reader in
    let lesser = c.in_ok-read_primitive.ensures.shorter in
    let got = parse_map_some primitive_of (value_at c.args.depth s) _ r c.in_ok-read_primitive.ensures.value in (
      n - 1,
      put k got.0 old,
      omega (arith, l.invariant.2),
      l.invariant.3 ∙ member_read p old n k l.reader s r got.0 (omega (arith, l.invariant.2)) named got.1,
      omega (arith, l.invariant.4),
    )

pub skip_members-returns-in_err-next_key-clause-value : goal.skip_members-returns-in_err-next_key-clause-value
skip_members-returns-in_err-next_key-clause-value t c =
    let l = c.members in
    let none = l.invariant.3 ∙ key_refused (value c.args.depth) l.invariant.1 l.invariant.0 l.reader c.in_err-next_key.ensures.value in
    grind (arith, none)

pub skip_members-returns-in_err-read_primitive-clause-value : goal.skip_members-returns-in_err-read_primitive-clause-value
unfolding value_at
skip_members-returns-in_err-read_primitive-clause-value t c =
    let l = c.members in
    let k = c.in-Some.field-0.now in
    let s = c.next_key.new.self in
    let named : read_key l.reader ≡ Some (Some k, s) = grind arith in
    let none = l.invariant.3 ∙ member_refused (value c.args.depth) l.invariant.1 l.invariant.0 k l.reader s named c.in_err-read_primitive.ensures.value in
    grind (arith, none)

pub skip_members-returns-clause-value : goal.skip_members-returns-clause-value
skip_members-returns-clause-value t c =
    let l = c.members in
    (l.invariant.1, l.invariant.3 ∙ members_over (value c.args.depth) l.invariant.1 l.invariant.0 l.reader c.next_key.new.self l.invariant.2 (grind arith))
