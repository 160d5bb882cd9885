use Rattle.std.proofs.Common.{◌≡◌, ◌∙◌, [], false, sym, ap, subst, arith, Ok, Err}
use Rattle.std.specs.Prelude.{nat_lt}
use Rattle.std.proofs.lemmas.Bool.Decides.{nat_tests}
use Rattle.std.proofs.lemmas.Result.{err_from_is_err_and}
use Rattle.http_messages.specs.Heads.{pairs, sized}
use Rattle.http_messages.specs.HeadTests.{FindsAt}
use Rattle.http_messages.proofs.LineLemmas.{parts_are, head_is_whole, judged_read, judged_unread, whole_head}
use Rattle.http_messages.proofs.head.judge.Goals as goal

pub returns-in_default : goal.returns-in_default
returns-in_default c =
    let few : nat_lt 34 (pairs c.args.head.now) ≡ false = grind (arith, nat_tests, c.pairs.ensures, c.if-pairs-gt-MOST_PAIRS.false) in
    judged_unread c.args.head.now (sym c.has_bare_lf.ensures ∙ c.if-has_bare_lf.false) few (λ h reads fits.
    subst (FindsAt c.args.head.now c.read.new.headers h) c.in_default.is (c.read.ensures.finds h [] reads fits))

pub returns-then-spans-head : goal.returns-then-spans-head
returns-then-spans-head c =
    let few : nat_lt 34 (pairs c.args.head.now) ≡ false = grind (arith, nat_tests, c.pairs.ensures, c.if-pairs-gt-MOST_PAIRS.false) in
    judged_unread c.args.head.now (sym c.has_bare_lf.ensures ∙ c.if-has_bare_lf.false) few (λ h reads fits.
    let at = subst (FindsAt c.args.head.now c.read.new.headers h) c.in-Some.is (c.read.ensures.finds h [] reads fits) in
    c.if-spans-head.true (head_is_whole c.args.head.now h c.in-Some.spans.len reads at.len))

pub returns-in_err-size : goal.returns-in_err-size
returns-in_err-size c =
    let few : nat_lt 34 (pairs c.args.head.now) ≡ false = grind (arith, nat_tests, c.pairs.ensures, c.if-pairs-gt-MOST_PAIRS.false) in
    let p = err_from_is_err_and c.from_residual.result c.from_residual.ensures.1 in
    let h0 = c.in-Some.ensures.is in
    judged_read c.args.head.now _ (sym c.has_bare_lf.ensures ∙ c.if-has_bare_lf.false) few h0.0 (whole_head c.args.head.now h0.0 c.in-Some.spans.len h0.1.reads c.if-spans-head.false) (λ h reads fits.
    let at = subst (FindsAt c.args.head.now c.read.new.headers h) c.in-Some.is (c.read.ensures.finds h [] reads fits) in
    rw p.1 (ap (λ why. sized [] [] (Err why)) p.2 ∙ parts_are c.args.head.now c.read.new.headers c.in-Some.spans h (Err c.in_err-size.field-0.0) at c.in_err-size.ensures))

pub returns : goal.returns
returns c =
    let few : nat_lt 34 (pairs c.args.head.now) ≡ false = grind (arith, nat_tests, c.pairs.ensures, c.if-pairs-gt-MOST_PAIRS.false) in
    let h0 = c.in-Some.ensures.is in
    judged_read c.args.head.now _ (sym c.has_bare_lf.ensures ∙ c.if-has_bare_lf.false) few h0.0 (whole_head c.args.head.now h0.0 c.in-Some.spans.len h0.1.reads c.if-spans-head.false) (λ h reads fits.
    let at = subst (FindsAt c.args.head.now c.read.new.headers h) c.in-Some.is (c.read.ensures.finds h [] reads fits) in
    (λ i. sized (c.of.ensures i) (c.of-2.ensures i) (Ok c.in_ok-size.size))
    ∙ parts_are c.args.head.now c.read.new.headers c.in-Some.spans h (Ok c.in_ok-size.size) at c.in_ok-size.ensures)
