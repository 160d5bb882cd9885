use Rattle.std.proofs.Common.{rules, arith, ◌≡◌, ◌≤◌, ℕ, List, Bool, None, Some, codes}
use Rattle.clap.specs.Words.{Row, found_of, rows_of}
use Rattle.arguments.specs.Words.{InRange, IsFlag, IsNumber, ReadsPlan}
use Rattle.arguments.specs.declared.words.Words.{Words}
use Rattle.arguments.specs.declared.words.Words.TheVariants.{Plan}
use Rattle.arguments.proofs.NumberLemmas.{flag_read}
use Rattle.arguments.proofs.words.plan_of.Goals as goal

no_max : (rows : List Row) → ((n : ℕ) → 16 ≤ n → n ≤ 255 → IsNumber (codes "max") rows n → ⊥) → (w : Words) → InRange w → ReadsPlan rows w → ⊥
no_max rows none (Plan max low check) range reads = none max range.0 range.1 reads.0
no_max rows none _ range reads = reads

no_low : (rows : List Row) → ((n : ℕ) → 0 ≤ n → n ≤ 31 → IsNumber (codes "low") rows n → ⊥) → (w : Words) → InRange w → ReadsPlan rows w → ⊥
no_low rows none (Plan max low check) range reads = none low (omega arith) range.2 reads.1
no_low rows none _ range reads = reads

no_check : (rows : List Row) → ((on : Bool) → IsFlag (codes "check") rows on → ⊥) → (w : Words) → InRange w → ReadsPlan rows w → ⊥
no_check rows none (Plan max low check) range reads = none check reads.2
no_check rows none _ range reads = reads

pub returns-in_err-number-clause-nothing : goal.returns-in_err-number-clause-nothing
returns-in_err-number-clause-nothing c none =
    let gone : c.number.result ≡ None = search rules in
    no_max (rows_of (found_of c.args.values.now)) (c.number.ensures.none gone)

pub returns-in_err-number-2-clause-nothing : goal.returns-in_err-number-2-clause-nothing
returns-in_err-number-2-clause-nothing c none =
    let gone : c.number-2.result ≡ None = search rules in
    no_low (rows_of (found_of c.args.values.now)) (c.number-2.ensures.none gone)

pub returns-in_err-get_one-clause-nothing : goal.returns-in_err-get_one-clause-nothing
returns-in_err-get_one-clause-nothing c none =
    let gone : c.get_one.result ≡ None = search rules in
    no_check (rows_of (found_of c.args.values.now)) (λ on is.
    let read : c.get_one.result ≡ Some on = (flag_read _ (codes "check") (found_of c.args.values.now) c.get_one.result c.get_one.ensures.none
    c.get_one.ensures.value on).1 is in
    cc)

pub returns-clause-values : goal.returns-clause-values
returns-clause-values c =
    let on : c.get_one.result ≡ Some c.in_ok-get_one.field-0 = search rules in
    let flag = (flag_read _ (codes "check") (found_of c.args.values.now) c.get_one.result c.get_one.ensures.none
    c.get_one.ensures.value c.in_ok-get_one.field-0).0 on in
    (c.in_ok-number.ensures.some.0, c.in_ok-number-2.ensures.some.0, flag)
