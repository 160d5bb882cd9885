-- The audit rules: the condition of each rule, and the first rule that fails.
use Rattle.std.specs.Prelude.{◌≡◌, ◌≢◌, ◌≤◌, ℕ, ⊤, false, List, [], ◌∷◌, ◌++◌, All, AllPairs, IsPermutation, IsTrue, Option, Some, None, bytes_eq, count_by, flat_map, length, map}
use Rattle.std.specs.List.{AllByRecursion, range_with_len}
use Rattle.std.specs.List.Sorted.{IsNonDecreasingBy}
use Rattle.job_facts.specs.Contents.{Entry, IsEntry, IsMark, Mark, is_above, is_of_number}
use Rattle.job_facts.specs.Sound.{AreLots, AreProducts}
use Rattle.table_rows.specs.Tables.{StoredBatch, StoredBlank, StoredSession, Tables}
use Rattle.table_rows.specs.Keys.{is_running_on}
use Rattle.audit_laws.specs.Audited.{IsAuditedBlank, IsAuditedLot, opened_rows, placed_words, turns_of}
use Rattle.audit_order.specs.Order.{AreReady, lots_of}
use Rattle.audit_cards.specs.Sessions.{IsAuditedFile}
use Rattle.audit_rows.specs.Audit.{AreFewOnce, AreOwned}
use Rattle.audit_rows.specs.declared.rule.Rule.{Rule}
use Rattle.audit_rows.specs.declared.rule.Rule.TheVariants.{Products, Lots, Batches, BatchIds, SessionIds, Owners, Files, Words, Remakes, Machines, LotCounters, BlankTwice, BlankLots, OpenedBlanks, Marks, Replies, MarkTwice, ReleasedReplies, ReplyTwice}

-- The rows of `t`, which are sorted, obey the rule.
abbrev pub Holds : Rule → Tables → Type 0
Holds Products t = AreProducts t.products
Holds Lots t = AreLots t.products (lots_of t.lots)
Holds Batches t = AreFewOnce t.batches
Holds BatchIds t = map (λ (b : StoredBatch). b.id) t.batches ≡ range_with_len 1 (length t.batches)
Holds SessionIds t = map (λ (s : StoredSession). s.id) t.sessions ≡ range_with_len 1 (length t.sessions)
Holds Owners t = AreOwned (length t.batches) t.records t.groupings t.sessions
Holds Files t = All (IsAuditedFile t) t.batches
Holds Words t = t.words ≡ flat_map (placed_words t) t.sessions
Holds Remakes t = t.remakes ≡ flat_map turns_of t.records
Holds Machines t = (machine : List ℕ) → count_by (is_running_on machine) t.sessions ≤ 1
Holds LotCounters t = All (IsAuditedLot t) t.lots
Holds BlankTwice t = AllPairs (λ (b c : StoredBlank). b.serial ≢ c.serial) t.blanks
Holds BlankLots t = All (IsAuditedBlank t) t.blanks
Holds OpenedBlanks t = IsPermutation (map (λ (b : StoredBlank). b.serial) (opened_rows t.blanks)) (map (λ (s : StoredSession). s.serial) t.sessions)
Holds Marks t = All IsMark t.marks
Holds Replies t = All IsEntry t.replies
Holds MarkTwice t = AllPairs (λ (m n : Mark). bytes_eq m.client n.client ≡ false) t.marks
Holds ReleasedReplies t = All (λ (e : Entry). IsTrue (is_above t.marks e)) t.replies
Holds ReplyTwice t = AllPairs (λ (d e : Entry). is_of_number d e ≡ false) t.replies

-- What the check of the rule needs. It holds if the rows are sorted and obey the rules before it.
abbrev pub IsReadyFor : Rule → Tables → Type 0
IsReadyFor Lots t = AreProducts t.products
IsReadyFor Files t = AreReady t
IsReadyFor Words t = AreReady t
IsReadyFor LotCounters t = AreReady t
IsReadyFor BlankTwice t = IsNonDecreasingBy (λ (b : StoredBlank). b.serial) t.blanks
IsReadyFor BlankLots t = AreReady t
IsReadyFor ReleasedReplies t = Holds MarkTwice t
IsReadyFor rule t = ⊤

-- all rules, in the order in which they are checked
abbrev pub rules : List Rule
rules =
    Products ∷ Lots ∷ Batches ∷ BatchIds ∷ SessionIds ∷ Owners ∷ Files ∷ Words ∷ Remakes ∷ Machines ∷ LotCounters ∷ BlankTwice ∷ BlankLots ∷ OpenedBlanks ∷ Marks ∷ Replies ∷ MarkTwice
    ∷ ReleasedReplies ∷ ReplyTwice ∷ []

-- ---- the first rule that fails

-- All rules of the list `some` hold.
abbrev pub AllHold : List Rule → Tables → Type 0
AllHold some t = AllByRecursion (λ r. Holds r t) some

-- The rule `rule` fails, and all rules before it in the list `some` hold.
pub record FailsFirst (some : List Rule) (t : Tables) (rule : Rule) : Type 0 where
  pub before : List Rule
  pub after : List Rule
  pub place : some ≡ before ++ rule ∷ after
  pub hold : AllHold before t
  pub fails : ¬ Holds rule t

-- The value is the first rule of the list that fails, or `None` if all rules hold.
abbrev pub IsFirstFailing : List Rule → Tables → Option Rule → Type 0
IsFirstFailing some t None = AllHold some t
IsFirstFailing some t (Some rule) = FailsFirst some t rule
