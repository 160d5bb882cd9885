use Rattle.std.proofs.Common.{◌∙◌, sym}
use Rattle.std.proofs.lemmas.Bool.{false≢true}
use Rattle.audit_cards.proofs.RecordLemmas.{audited_record, have_plans, stands_by_own}
use Rattle.audit_order.proofs.Tested.{refused}
use Rattle.audit_cards.proofs.records.is_audited_record.Goals as goal

pub returns-then-not-stands_by : goal.returns-then-not-stands_by
returns-then-not-stands_by c = refused (λ a. false≢true (sym c.if-not-stands_by.true ∙ c.stands_by.ensures.1
    (stands_by_own c.args.audited.now.tables.now c.args.audited.now.batch.now c.args.audited.now.product.now c.args.rows.now c.args.stored.now c.args.own.now c.requires.rows a.0)))

pub are_audited-requires-clause-plans : goal.are_audited-requires-clause-plans
are_audited-requires-clause-plans c =
    have_plans c.args.audited.now.tables.now c.args.audited.now.batch.now c.args.audited.now.product.now c.args.rows.now c.args.stored.now c.args.own.now c.requires.rows _ c.in_ok-plan.ensures

pub returns : goal.returns
returns c =
    let stands = audited_record c.args.audited.now.tables.now c.args.audited.now.batch.now c.args.audited.now.product.now c.args.rows.now c.args.stored.now c.args.own.now c.requires.rows (c.stands_by.ensures.0 c.if-not-stands_by.false) in (
      λ yes. (stands, c.are_audited.ensures.0 yes),
      λ a. c.are_audited.ensures.1 a.1,
    )
