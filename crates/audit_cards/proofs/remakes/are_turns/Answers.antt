use Rattle.std.proofs.Common.{◌≡◌, ◌∙◌, ◌+◌, ap, arith, length, refl, sym}
use Rattle.std.proofs.lemmas.Bool.{false≢true}
use Rattle.table_rows.specs.Tables.{StoredRecord, StoredRemake}
use Rattle.audit_laws.specs.Audited.{turns_of}
use Rattle.audit_cards.specs.Sessions.{turn_of}
use Rattle.audit_cards.proofs.RowLemmas.{turn_here, turns_count}
use Rattle.audit_order.proofs.SameLists.{all_equal, here_equal, same_here, same_more}
use Rattle.audit_order.proofs.Tested.{granted, refused}
use Rattle.audit_cards.proofs.remakes.are_turns.Goals as goal

pub returns-then-remakes-stored : goal.returns-then-remakes-stored
returns-then-remakes-stored c =
    refused (λ same. c.if-remakes-stored.true (ap length same ∙ turns_count c.args.stored.now ∙ sym (ap (λ (r : StoredRecord). r.remakes) c.stored.view_is)))

pub returns-then-not-is_turn : goal.returns-then-not-is_turn
returns-then-not-is_turn c =
    let r = c.args.stored.now in
    let k = c.loop-before.before in
    let given : StoredRemake = turn_of r (1 + k) in
    let many : length c.args.remakes.now ≡ r.remakes = c.if-remakes-stored.false ∙ ap (λ (r : StoredRecord). r.remakes) c.stored.view_is in
    refused (λ same. false≢true (sym c.if-not-is_turn.true ∙ c.is_turn.ensures.1
    (here_equal c.args.remakes.now (turns_of r) k c.index-remakes-before.result given (omega arith) (omega (arith, turns_count r)) c.index-remakes-before.is (turn_here r k (omega arith) given refl) same)))

pub loop-before-preserved : goal.loop-before-preserved
loop-before-preserved c =
    let r = c.args.stored.now in
    let k = c.loop-before.before in
    let given : StoredRemake = turn_of r (1 + k) in
    let many : length c.args.remakes.now ≡ r.remakes = c.if-remakes-stored.false ∙ ap (λ (r : StoredRecord). r.remakes) c.stored.view_is in
    same_more (λ x. x) c.args.remakes.now (turns_of r) k c.loop-before.invariant
    (same_here (λ x. x) c.args.remakes.now (turns_of r) k c.index-remakes-before.result given (omega arith) (omega (arith, turns_count r)) c.index-remakes-before.is (turn_here r k (omega arith) given refl)
    (c.is_turn.ensures.0 c.if-not-is_turn.false))

pub returns : goal.returns
returns c =
    let many : length c.args.remakes.now ≡ c.args.stored.now.remakes = c.if-remakes-stored.false ∙ ap (λ (r : StoredRecord). r.remakes) c.stored.view_is in
    granted (all_equal c.args.remakes.now (turns_of c.args.stored.now) (many ∙ sym (turns_count c.args.stored.now)) (λ k within. c.loop-before.invariant k (omega arith)))
