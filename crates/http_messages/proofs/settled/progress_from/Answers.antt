use Rattle.std.proofs.Common.{◌∙◌, ◌≤◌, length, arith, sym, refl}
use Rattle.http_messages.specs.declared.fixed.FixedReply.TheVariants.{HeadTooLarge}
use Rattle.http_messages.proofs.EndLemmas.{none_so_far}
use Rattle.http_messages.proofs.SettledLemmas.{front_end, front_taken, too_large, whole_front, without_end}
use Rattle.http_messages.proofs.settled.progress_from.Goals as goal

pub find_end-requires-clause-before : goal.find_end-requires-clause-before
find_end-requires-clause-before c = none_so_far c.args.bytes.now c.args.from c.requires.within c.requires.searched

pub returns-in-Some : goal.returns-in-Some
returns-in-Some c =
    let bytes = c.args.bytes.now in
    let end = c.in-Some.end in
    let within : end ≤ length bytes = c.in-Some.ensures.within in
    c.progress_after.ensures bytes (front_end bytes end c.requires.few within (sym c.find_end.ensures.first ∙ c.in-Some.is)) (front_taken bytes end within) refl

pub returns-in-None : goal.returns-in-None
returns-in-None c =
    let none = whole_front c.args.bytes.now _ c.requires.few (sym c.find_end.ensures.first ∙ c.in-None.is) in
    (without_end c.args.bytes.now c.if-bytes-lt-MOST_HEAD.true none, none, c.if-bytes-lt-MOST_HEAD.true)

pub returns-in-None-2 : goal.returns-in-None-2
returns-in-None-2 c = (HeadTooLarge, λ more. too_large c.args.bytes.now more (omega (arith, c.requires.few, c.if-bytes-lt-MOST_HEAD.false)) (sym c.find_end.ensures.first ∙ c.in-None-2.is))
