use Rattle.std.proofs.Common.{◌≡◌, ◌∙◌, ap, arith, length, sym, take}
use Rattle.std.proofs.lemmas.Bool.{false≢true}
use Rattle.std.proofs.lemmas.List.{length-append, take_at}
use Rattle.table_rows.specs.Tables.{StoredRecord}
use Rattle.audit_laws.specs.Audited.{turns_of}
use Rattle.audit_cards.proofs.RowLemmas.{turns_count}
use Rattle.audit_cards.proofs.remakes.behind_turns.Goals as goal

pub returns-then-stored-remakes-clause-none : goal.returns-then-stored-remakes-clause-none
returns-then-stored-remakes-clause-none c = λ none rest is.
    let view = ap (λ (r : StoredRecord). r.remakes) c.stored.view_is in
    absurd (omega (arith, c.if-stored-remakes.true, view, ap length is, length-append (turns_of c.args.stored.now) rest, turns_count c.args.stored.now))

pub returns-else-are_turns-clause-none : goal.returns-else-are_turns-clause-none
returns-else-are_turns-clause-none c = λ none rest is.
    let r = c.args.stored.now in
    let count : length (turns_of r) ≡ c.stored.inside.remakes = turns_count r ∙ sym (ap (λ (r : StoredRecord). r.remakes) c.stored.view_is) in
    false≢true (sym c.if-are_turns.false ∙ c.are_turns.ensures.1 (c.split_at.ensures.front ∙ ap (take c.stored.inside.remakes) is ∙ take_at (turns_of r) rest c.stored.inside.remakes count))
