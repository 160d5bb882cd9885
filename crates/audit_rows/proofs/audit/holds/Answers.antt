use Rattle.std.proofs.Common.{◌≡◌, ◌∙◌, false, List, ap, sym}
use Rattle.std.specs.Prelude.{AllPairs, All, IsTrue, bytes_eq}
use Rattle.job_facts.specs.Contents.{Entry, Mark, is_above, is_of_number}
use Rattle.table_rows.specs.Tables.{Tables}
use Rattle.audit_order.proofs.Tested.{test_of}
use Rattle.audit_rows.specs.declared.rule.Rule.{Rule}
use Rattle.audit_rows.specs.Rules.{Holds}
use Rattle.audit_rows.proofs.audit.holds.Goals as goal

abbrev AreOnce : List Mark → Type 0
AreOnce marks = AllPairs (λ (m n : Mark). bytes_eq m.client n.client ≡ false) marks

abbrev AreAbove : List Mark → List Entry → Type 0
AreAbove marks replies = All (λ (e : Entry). IsTrue (is_above marks e)) replies

pub returns-in-Files : goal.returns-in-Files
returns-in-Files c = test_of (λ (rule : Rule). Holds rule c.args.tables.now) c.has_files.result (sym c.in-Files.is) c.has_files.ensures

pub returns-in-Machines : goal.returns-in-Machines
returns-in-Machines c = test_of (λ (rule : Rule). Holds rule c.args.tables.now) c.has_machines.result (sym c.in-Machines.is) c.has_machines.ensures

pub returns-in-LotCounters : goal.returns-in-LotCounters
returns-in-LotCounters c = test_of (λ (rule : Rule). Holds rule c.args.tables.now) c.has_counts.result (sym c.in-LotCounters.is) c.has_counts.ensures

pub returns-in-OpenedBlanks : goal.returns-in-OpenedBlanks
returns-in-OpenedBlanks c = test_of (λ (rule : Rule). Holds rule c.args.tables.now) c.has_opened.result (sym c.in-OpenedBlanks.is) c.has_opened.ensures

pub returns-in-MarkTwice : goal.returns-in-MarkTwice
returns-in-MarkTwice c =
    test_of (λ (rule : Rule). Holds rule c.args.tables.now) c.are_marked_once.result (sym c.in-MarkTwice.is)
    (test_of AreOnce c.are_marked_once.result (c.deref-in-MarkTwice.ensures.value ∙ ap (λ (t : Tables). t.marks) c.tables.view_is) c.are_marked_once.ensures)

pub returns-in-ReleasedReplies : goal.returns-in-ReleasedReplies
returns-in-ReleasedReplies c =
    test_of (λ (rule : Rule). Holds rule c.args.tables.now) c.are_unreleased.result (sym c.in-ReleasedReplies.is)
    (test_of (AreAbove c.args.tables.now.marks) c.are_unreleased.result (c.deref-in-ReleasedReplies-2.ensures.value ∙ ap (λ (t : Tables). t.replies) c.tables.view_is)
    (test_of (λ (marks : List Mark). AreAbove marks c.deref-in-ReleasedReplies-2.result.now) c.are_unreleased.result (c.deref-in-ReleasedReplies.ensures.value ∙ ap (λ (t : Tables). t.marks) c.tables.view_is)
    c.are_unreleased.ensures))

pub returns-in-ReplyTwice : goal.returns-in-ReplyTwice
returns-in-ReplyTwice c =
    test_of (λ (rule : Rule). Holds rule c.args.tables.now) c.are_kept_once.result (sym c.in-ReplyTwice.is)
    (test_of (AllPairs (λ (d e : Entry). is_of_number d e ≡ false)) c.are_kept_once.result (c.deref-in-ReplyTwice.ensures.value ∙ ap (λ (t : Tables). t.replies) c.tables.view_is) c.are_kept_once.ensures)
