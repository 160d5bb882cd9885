-- The names of the audit rules (this project's profile).
use Rattle.std.specs.Prelude.{ℕ, List, codes}
use Rattle.audit_rows.specs.declared.rule.Rule.{Rule}
use Rattle.audit_rows.specs.declared.rule.Rule.TheVariants.{Products, Lots, Batches, BatchIds, SessionIds, Owners, Files, Words, Remakes, Machines, LotCounters, BlankTwice, BlankLots, OpenedBlanks, Marks, Replies, MarkTwice, ReleasedReplies, ReplyTwice}

-- the printed name of a rule
abbrev pub name_of : Rule → List ℕ
name_of Products = codes "products"
name_of Lots = codes "lots"
name_of Batches = codes "batches"
name_of BatchIds = codes "batch-ids"
name_of SessionIds = codes "session-ids"
name_of Owners = codes "owners"
name_of Files = codes "files"
name_of Words = codes "words"
name_of Remakes = codes "remakes"
name_of Machines = codes "machines"
name_of LotCounters = codes "lot-counters"
name_of BlankTwice = codes "blank-twice"
name_of BlankLots = codes "blank-lots"
name_of OpenedBlanks = codes "opened-blanks"
name_of Marks = codes "marks"
name_of Replies = codes "replies"
name_of MarkTwice = codes "mark-twice"
name_of ReleasedReplies = codes "released-replies"
name_of ReplyTwice = codes "reply-twice"
