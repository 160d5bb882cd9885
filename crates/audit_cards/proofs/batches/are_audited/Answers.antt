use Rattle.std.proofs.Common.{◌∙◌, arith, sym}
use Rattle.std.proofs.lemmas.Bool.{false≢true}
use Rattle.audit_cards.specs.Sessions.{IsAuditedWith}
use Rattle.audit_cards.proofs.BatchLemmas.{groups_many, own_with, rows_at, with_own}
use Rattle.audit_order.proofs.SameLists.{All-done, All-here, All-next}
use Rattle.audit_order.proofs.Tested.{granted, refused}
use Rattle.audit_cards.proofs.batches.are_audited.Goals as goal

pub bounds-groups-place : goal.bounds-groups-place
bounds-groups-place c =
    omega (arith, c.loop-place-test.true, groups_many (λ group. group.items) c.args.groups.now c.args.audited.now.tables.now c.args.audited.now.batch.now c.args.audited.now.product.now c.args.records.now c.args.sessions.now c.requires.file)

pub is_audited_record-requires-clause-rows : goal.is_audited_record-requires-clause-rows
is_audited_record-requires-clause-rows c =
    rows_at (λ group. group.items) c.args.groups.now c.args.audited.now.tables.now c.args.audited.now.batch.now c.args.audited.now.product.now c.args.records.now c.args.sessions.now c.requires.file
    c.loop-place.place c.loop-place-test.true c.index-records-place.result c.index-records-place.is c.index-groups-place.result c.index-groups-place.is
    c.deref.result.now c.deref.ensures.value c.sessions_at-own.result.now c.sessions_at-own.ensures

pub returns-then-not-branch : goal.returns-then-not-branch
returns-then-not-branch c =
    let has =
    rows_at (λ group. group.items) c.args.groups.now c.args.audited.now.tables.now c.args.audited.now.batch.now c.args.audited.now.product.now c.args.records.now c.args.sessions.now c.requires.file
    c.loop-place.place c.loop-place-test.true c.index-records-place.result c.index-records-place.is c.index-groups-place.result c.index-groups-place.is
    c.deref.result.now c.deref.ensures.value c.sessions_at-own.result.now c.sessions_at-own.ensures in
    refused (λ all. false≢true (sym c.if-not-branch.true ∙ c.in_ok-is_audited_record.ensures.1
    (own_with c.args.audited.now.tables.now c.args.audited.now.batch.now c.args.audited.now.product.now c.deref.result.now c.index-records-place.result c.sessions_at-own.result.now has
    (All-here (IsAuditedWith c.args.audited.now.tables.now) c.args.records.now c.loop-place.place c.index-records-place.result c.loop-place-test.true c.index-records-place.is all))))

pub loop-place-preserved : goal.loop-place-preserved
loop-place-preserved c =
    let has =
    rows_at (λ group. group.items) c.args.groups.now c.args.audited.now.tables.now c.args.audited.now.batch.now c.args.audited.now.product.now c.args.records.now c.args.sessions.now c.requires.file
    c.loop-place.place c.loop-place-test.true c.index-records-place.result c.index-records-place.is c.index-groups-place.result c.index-groups-place.is
    c.deref.result.now c.deref.ensures.value c.sessions_at-own.result.now c.sessions_at-own.ensures in
    All-next (IsAuditedWith c.args.audited.now.tables.now) c.args.records.now c.loop-place.place c.index-records-place.result c.loop-place-test.true c.index-records-place.is c.loop-place.invariant
    (with_own c.args.audited.now.tables.now c.args.audited.now.batch.now c.args.audited.now.product.now c.deref.result.now c.index-records-place.result c.sessions_at-own.result.now has (c.in_ok-is_audited_record.ensures.0 c.if-not-branch.false))

pub returns : goal.returns
returns c = granted (All-done (IsAuditedWith c.args.audited.now.tables.now) c.args.records.now c.loop-place.place c.loop-place-test.false c.loop-place.invariant)
