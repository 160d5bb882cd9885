use Rattle.std.proofs.Common.{◌∙◌, sym}
use Rattle.std.proofs.lemmas.Bool.{false≢true}
use Rattle.audit_cards.specs.Sessions.{IsAuditedFile}
use Rattle.audit_order.proofs.IdLemmas.{found_among}
use Rattle.audit_order.proofs.SameLists.{All-done, All-here, All-next}
use Rattle.audit_order.proofs.Tested.{granted, refused}
use Rattle.audit_cards.proofs.tables.are_files.Goals as goal

pub is_audited_file-requires-clause-batch : goal.is_audited_file-requires-clause-batch
is_audited_file-requires-clause-batch c =
    found_among c.args.tables.now c.requires.ready.batch_ids c.args.batches.now c.requires.batches c.loop-batch.batch-index c.batch-item.result c.loop-batch-test.true c.batch-item.is

pub returns-then-not-branch : goal.returns-then-not-branch
returns-then-not-branch c = refused (λ all. false≢true (sym c.if-not-branch.true ∙ c.in_ok-is_audited_file.ensures.1
    (All-here (IsAuditedFile c.args.tables.now) c.args.batches.now c.loop-batch.batch-index c.batch-item.result c.loop-batch-test.true c.batch-item.is all)))

pub loop-batch-preserved : goal.loop-batch-preserved
loop-batch-preserved c =
    All-next (IsAuditedFile c.args.tables.now) c.args.batches.now c.loop-batch.batch-index c.batch-item.result c.loop-batch-test.true c.batch-item.is c.loop-batch.invariant
    (c.in_ok-is_audited_file.ensures.0 c.if-not-branch.false)

pub returns : goal.returns
returns c = granted (All-done (IsAuditedFile c.args.tables.now) c.args.batches.now c.loop-batch.batch-index c.loop-batch-test.false c.loop-batch.invariant)
