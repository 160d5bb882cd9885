use Rattle.std.proofs.Common.{◌∙◌, sym}
use Rattle.std.proofs.lemmas.Bool.{false≢true}
use Rattle.audit_laws.specs.Audited.{IsAuditedSession}
use Rattle.audit_order.proofs.SameLists.{All-done, All-here, All-next}
use Rattle.audit_order.proofs.Tested.{granted, refused}
use Rattle.audit_cards.proofs.records.are_audited.Goals as goal

pub returns-then-not-is_audited : goal.returns-then-not-is_audited
returns-then-not-is_audited c = refused (λ all. false≢true (sym c.if-not-is_audited.true ∙ c.is_audited.ensures.1
    (All-here (IsAuditedSession c.args.tables.now) c.args.own.now c.loop-session.session-index c.session-item.result c.loop-session-test.true c.session-item.is all)))

pub loop-session-preserved : goal.loop-session-preserved
loop-session-preserved c =
    All-next (IsAuditedSession c.args.tables.now) c.args.own.now c.loop-session.session-index c.session-item.result c.loop-session-test.true c.session-item.is c.loop-session.invariant
    (c.is_audited.ensures.0 c.if-not-is_audited.false)

pub returns : goal.returns
returns c = granted (All-done (IsAuditedSession c.args.tables.now) c.args.own.now c.loop-session.session-index c.loop-session-test.false c.loop-session.invariant)
