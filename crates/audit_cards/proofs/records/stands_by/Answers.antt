use Rattle.std.proofs.Common.{◌∙◌, sym}
use Rattle.std.proofs.lemmas.Bool.{false≢true}
use Rattle.audit_cards.proofs.RecordLemmas.{stands_by_counts, so_by_counts, sound_by_counts}
use Rattle.audit_order.proofs.Tested.{refused}
use Rattle.audit_cards.proofs.records.stands_by.Goals as goal

pub returns-then-not-has_spoiled_and_state : goal.returns-then-not-has_spoiled_and_state
returns-then-not-has_spoiled_and_state c = refused (λ a. false≢true (sym c.if-not-has_spoiled_and_state.true ∙ c.has_spoiled_and_state.ensures.1
    (so_by_counts c.args.own.now c.args.stored.now _ _ _ _ c.count_of-good.ensures c.count_of-running.ensures c.count_of-spoiled.ensures c.state_by.ensures a)))

pub returns : goal.returns
returns c =
    let so = c.has_spoiled_and_state.ensures.0 c.if-not-has_spoiled_and_state.false in (
      λ yes. stands_by_counts c.args.own.now c.args.stored.now _ _ _ _ c.count_of-good.ensures c.count_of-running.ensures c.count_of-spoiled.ensures c.state_by.ensures _ c.cards_of.ensures
          so.0 so.1 (c.is_remade.ensures.0 yes),
      λ a. c.is_remade.ensures.1 (sound_by_counts c.args.own.now c.args.stored.now _ _ c.count_of-spoiled.ensures c.cards_of.ensures a),
    )
