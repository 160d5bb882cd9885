use Rattle.std.proofs.Common.{◌∙◌, Some, [], ap, refl, subst, sym}
use Rattle.feeder.specs.declared.world.Stop.TheVariants as stop
use Rattle.drill.specs.Steps.{Answers, LineEffect, delivered}
use Rattle.drill.proofs.LineLemmas.{delivers_by}
use Rattle.drill.proofs.step.deliver.Goals as goal

pub returns-in_ok-answered-in-No-clause-delivers : goal.returns-in_ok-answered-in-No-clause-delivers
returns-in_ok-answered-in-No-clause-delivers g c =
    let packet = c.in-Some.packet.now in
    let reply = c.in_ok-reply-in-No.reply.items in
    delivers_by g.S.JobStore.state c.args.store.now c.serve.new.store c.args.floor.now c.args.delivery stop.No packet _ c.in-No.is (sym c.in-Some.ensures) (
      reply,
      subst (λ m. Answers g.S.JobStore.state c.args.store.now c.serve.new.store m reply) (c.in_ok-message.ensures.items ∙ c.as_slice.ensures) c.in_ok-reply-in-No.ensures,
      ap Some (c.in_ok-answered-in-No.ensures packet.message ∙ ap (λ r. delivered packet r c.args.floor.now) c.as_slice-in-No.ensures.value),
    )

pub returns-in_ok-answered-in-No-clause-within : goal.returns-in_ok-answered-in-No-clause-within
returns-in_ok-answered-in-No-clause-within g c = ap (λ (d : LineEffect). d.taken) (c.in_ok-answered-in-No.ensures [])

pub returns-in_ok-stop-in-Before-clause-delivers :
    goal.returns-in_ok-stop-in-Before-clause-delivers
returns-in_ok-stop-in-Before-clause-delivers g c =
    delivers_by g.S.JobStore.state c.args.store.now c.args.store.now c.args.floor.now c.args.delivery stop.Before c.in-Some.packet.now _ c.in-Before.is (sym c.in-Some.ensures)
    (refl, ap Some (c.in_ok-stop-in-Before.ensures c.args.floor.now))

pub returns-in_ok-stop-in-Before-clause-within : goal.returns-in_ok-stop-in-Before-clause-within
returns-in_ok-stop-in-Before-clause-within g c = ap (λ (d : LineEffect). d.taken) (c.in_ok-stop-in-Before.ensures c.args.floor.now)

pub returns-in_ok-stop-in-After-clause-delivers : goal.returns-in_ok-stop-in-After-clause-delivers
returns-in_ok-stop-in-After-clause-delivers g c =
    let reply = c.in_ok-serve-in-After.field-0.items in
    delivers_by g.S.JobStore.state c.args.store.now c.serve-in-After.new.store c.args.floor.now c.args.delivery stop.After c.in-Some.packet.now _ c.in-After.is (sym c.in-Some.ensures) (
      reply,
      subst (λ m. Answers g.S.JobStore.state c.args.store.now c.serve-in-After.new.store m reply) (c.in_ok-message.ensures.items ∙ c.as_slice.ensures) c.in_ok-serve-in-After.ensures,
      ap Some (c.in_ok-stop-in-After.ensures c.args.floor.now),
    )

pub returns-in_ok-stop-in-After-clause-within : goal.returns-in_ok-stop-in-After-clause-within
returns-in_ok-stop-in-After-clause-within g c = ap (λ (d : LineEffect). d.taken) (c.in_ok-stop-in-After.ensures c.args.floor.now)
