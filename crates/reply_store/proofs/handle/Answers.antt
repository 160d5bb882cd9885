use Rattle.std.proofs.Common.{rules, ◌≡◌, ◌∙◌, Ok, None, true, false, sym, ap, arith}
use Rattle.std.proofs.lemmas.Bool.Decides.{nat_tests}
use Rattle.job_facts.specs.Contents.{entry_of, mark_of}
use Rattle.job_facts.specs.Store.{IsHonest}
use Rattle.job_facts.specs.declared.reply.Reply.TheVariants.{NumberReleased}
use Rattle.arrivals.specs.Meaning.{Arrived, http_reply_again, is_released}
use Rattle.arrivals.specs.HttpReplies.{http_reply_of}
use Rattle.reply_store.specs.Runs.{arrived}
use Rattle.reply_store.proofs.Handling.{Stays-then, answered_kept, answered_released, handles_answered, handles_decided, no_entry}
use Rattle.reply_store.proofs.handle.Goals as goal

pub returns-then-number-mark-clause-handled : goal.returns-then-number-mark-clause-handled
returns-then-number-mark-clause-handled g c =
    let state = g.S.JobStore.state in
    let a : Arrived = arrived c.args.arrival.now in
    handles_answered (state c.args.store.now) (state c.mark.new.self) a (Ok c.in_ok-http_reply_of.field-0) c.mark.ensures.leaves.stays (λ h k held.
    let mark : c.in_ok-mark.mark ≡ mark_of k.marks a.client = c.in_ok-mark.ensures.value h k held in
    let gone : is_released k.marks a ≡ true = grind (arith, nat_tests, mark, c.if-number-mark.true) in
    answered_released k a c.in_ok-http_reply_of.field-0 (g.met.S.JobStore.sound c.args.store.now k held) gone (c.in_ok-http_reply_of.ensures.value ∙ ap (λ m. http_reply_of (NumberReleased m)) mark))

pub returns-in-Some-clause-handled : goal.returns-in-Some-clause-handled
returns-in-Some-clause-handled g c =
    let state = g.S.JobStore.state in
    let a : Arrived = arrived c.args.arrival.now in
    let stays = Stays-then (state c.args.store.now) (state c.mark.new.self) (state c.kept.new.self) c.mark.ensures.leaves.stays c.kept.ensures.leaves.stays in
    handles_answered (state c.args.store.now) (state c.kept.new.self) a (Ok c.in_ok-again.field-0) stays (λ h k held.
    let early : IsHonest (state c.mark.new.self) = omega (arith, c.kept.ensures.leaves.stays.doubts, h) in
    let mark : c.in_ok-mark.mark ≡ mark_of k.marks a.client = c.in_ok-mark.ensures.value early k held in
    let live : is_released k.marks a ≡ false = grind (arith, nat_tests, mark, c.if-number-mark.false) in
    answered_kept k a c.in_ok-again.field-0 c.in-Some.kept (g.met.S.JobStore.sound c.args.store.now k held) live
    (sym c.in-Some.is ∙ c.in_ok-kept.ensures.value h k (c.mark.ensures.leaves.stays.contents early k held))
    (λ e is. c.in_ok-again.ensures ∙ ap (λ ask. http_reply_again ask c.in-Some.kept) c.as_slice.ensures ∙ ap (http_reply_again a.ask) is))

pub returns-clause-handled : goal.returns-clause-handled
returns-clause-handled g c =
    let state = g.S.JobStore.state in
    let a : Arrived = arrived c.args.arrival.now in
    let read = Stays-then (state c.args.store.now) (state c.mark.new.self) (state c.kept.new.self) c.mark.ensures.leaves.stays c.kept.ensures.leaves.stays in
    let stays = Stays-then (state c.args.store.now) (state c.kept.new.self) (state c.decide_call.new.store) read c.decide_call.ensures.leaves.stays in
    let none : c.in_ok-kept.field-0 ≡ None = search rules in
    handles_decided (state c.args.store.now) (state c.decide_call.new.store) (state c.settle.new.store) a c.in_ok-reply.reply c.in_ok-reply.effect
    (record { client = c.is_a_name.ensures; least = c.requires.least; most = c.requires.most })
    stays
    (λ h k held.
    let then : IsHonest (state c.kept.new.self) = omega (arith, c.decide_call.ensures.leaves.stays.doubts, h) in
    let early : IsHonest (state c.mark.new.self) = omega (arith, c.kept.ensures.leaves.stays.doubts, then) in
    let mark : c.in_ok-mark.mark ≡ mark_of k.marks a.client = c.in_ok-mark.ensures.value early k held in
    let live : is_released k.marks a ≡ false = grind (arith, nat_tests, mark, c.if-number-mark.false) in (
      g.met.S.JobStore.sound c.args.store.now k held,
      (
        live,
        no_entry (entry_of k.kept a.client a.number) (sym none ∙ c.in_ok-kept.ensures.value then k (c.mark.ensures.leaves.stays.contents early k held)),
        c.in_ok-reply.ensures.value h k (read.contents then k held) mark,
      ),
    ))
    c.settle.result c.settle.ensures.value c.settle.ensures.commits
