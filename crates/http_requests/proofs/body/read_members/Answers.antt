use Rattle.std.proofs.Common.{◌≡◌, ◌-◌, length, Some, true, false, option_map, refl, sym, ap, ◌∙◌, arith, rules}
use Rattle.json.specs.Json.{read_key, value}
use Rattle.json.proofs.Grammar.{read_key-shorter}
use Rattle.serde_json.specs.Data.{no_members, put}
use Rattle.serde_json.specs.Read.{converted}
use Rattle.serde_json.specs.View.{members_view}
use Rattle.http_requests.specs.Bodies.{is_member_name, known_primitives, members_at, primitive_of, value_at}
use Rattle.http_requests.proofs.BodyLemmas.{key_refused, known_put, known_some, member_read, member_refused, members_over, name_refused, parse_map_some, primitives_of-put}
use Rattle.http_requests.proofs.body.read_members.Goals as goal

pub members-init : goal.members-init
unfolding members_at
members-init c = (length c.args.reader.now, no_members, omega arith, refl, refl, ap members_view c.new-found.ensures.empty)

pub members-preserved : goal.members-preserved
unfolding value_at
members-preserved c =
    let l = c.members in
    let n = l.invariant.0 in
    let old = l.invariant.1 in
    let k = c.in-Some.name.now in
    let s = c.next_key.new.self in
    let named : read_key l.reader ≡ Some (Some k, s) = grind arith in
    let known : is_member_name k ≡ true = search rules in
    let less = read_key-shorter l.reader (Some k) s named in
    let r = c.read_primitive.new.reader in
    let lesser = c.in_ok-primitive.ensures.shorter in
    let got = parse_map_some primitive_of (value_at 126 s) _ r c.in_ok-primitive.ensures.value in
    let d = got.0 in (
      n - 1,
      put k d old,
      omega (arith, l.invariant.2),
      l.invariant.3 ∙ member_read (value 126) old n k l.reader s r d (omega (arith, l.invariant.2)) named got.1,
      known_put k d old known l.invariant.4,
      c.in_ok-put.ensures.ok ∙ ap (λ x. put k x (members_view l.found.entries)) (c.in_ok-value.ensures ∙ sym got.2) ∙ ap (put k (primitive_of d)) l.invariant.5 ∙ sym (primitives_of-put k d old),
    )

pub returns-in_err-name-clause-unfit : goal.returns-in_err-name-clause-unfit
returns-in_err-name-clause-unfit c refused =
    let l = c.members in
    ap (converted known_primitives) (l.invariant.3 ∙ key_refused (value 126) l.invariant.1 l.invariant.0 l.reader c.in_err-name.ensures.value)

pub returns-then-not-is_member_name-clause-unfit : goal.returns-then-not-is_member_name-clause-unfit
returns-then-not-is_member_name-clause-unfit c refused =
    let l = c.members in
    let k = c.in-Some.name.now in
    let s = c.next_key.new.self in
    let named : read_key l.reader ≡ Some (Some k, s) = grind arith in
    let unknown : is_member_name k ≡ false = search rules in
    ap (converted known_primitives) l.invariant.3 ∙ name_refused (value 126) l.invariant.1 l.invariant.0 k l.reader s named unknown

pub returns-in_err-primitive-clause-unfit : goal.returns-in_err-primitive-clause-unfit
unfolding value_at
returns-in_err-primitive-clause-unfit c refused =
    let l = c.members in
    let k = c.in-Some.name.now in
    let s = c.next_key.new.self in
    let named : read_key l.reader ≡ Some (Some k, s) = grind arith in
    ap (converted known_primitives) (l.invariant.3 ∙ member_refused (value 126) l.invariant.1 l.invariant.0 k l.reader s named c.in_err-primitive.ensures.value)

pub returns-clause-ok : goal.returns-clause-ok
returns-clause-ok c =
    let l = c.members in
    let r = c.next_key.new.self in
    ap (converted known_primitives) (l.invariant.3 ∙ members_over (value 126) l.invariant.1 l.invariant.0 l.reader r l.invariant.2 (grind arith))
    ∙ ap (option_map (λ ms. (ms, r))) (known_some l.invariant.1 l.invariant.4) ∙ ap (λ ms. Some (ms, r)) (sym l.invariant.5)
