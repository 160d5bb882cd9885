use Rattle.std.proofs.Common.{◌∙◌, ◌++◌, ℕ, List, Option, Some, ap, drop, false, map, refl, sym}
use Rattle.drill.specs.Floors.{Floor}
use Rattle.drill.specs.Scripts.{asked, shown}
use Rattle.drill.specs.Steps.{LineEffect, reply_line}
use Rattle.drill.proofs.LineLemmas.{asks_by}
use Rattle.drill.proofs.ScriptLemmas.{text_of}
use Rattle.drill.proofs.step.ask.Goals as goal

asked_did : Floor → ℕ → List ℕ → Option LineEffect
asked_did fl taken t = Some (record { floor = fl; taken = taken; text = t; stops = false })

pub returns-clause-asks : goal.returns-clause-asks
unfolding asked_did
returns-clause-asks g c = λ fl.
    let behind = map text_of c.args.behind.now in
    asks_by g.S.JobStore.state c.args.store.now c.serve.new.store fl behind (asked (shown c.args.step) behind) c.in-Some.message.items (drop c.in-Some.taken behind) _
    (sym (rw c.in-Some.is at c.in_ok-message.ensures.value)) (
      c.in_ok-reply.reply.items,
      c.in-Some.taken,
      c.in_ok-reply.ensures,
      refl,
      ap (asked_did fl c.in-Some.taken)
          (c.in_ok-text.ensures ∙ ap (λ t. t ++ reply_line c.as_slice.result.now) c.new.ensures.items ∙ ap reply_line c.as_slice.ensures.value),
    )
