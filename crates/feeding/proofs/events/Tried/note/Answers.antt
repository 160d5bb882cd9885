use Rattle.std.proofs.Common.{◌++◌, List, option_map, refl, subst, Bor, ℕ}
use Rattle.job_facts.specs.declared.reply.Reply.{Reply}
use Rattle.feeding.specs.Events.{IsNoted, again_line, rejection_lines}
use Rattle.feeding.proofs.Noting.{again_some, exhausted_of, lost, noted_line, noted_then}
use Rattle.feeding.proofs.events.Tried.note.Goals as goal

pub returns-then-not-is_on : goal.returns-then-not-is_on
returns-then-not-is_on g c = lost g.E.Write.contents c.args.events.now c.args.events.now _ refl

pub returns-then-self-gt0 : goal.returns-then-self-gt0
returns-then-self-gt0 g c =
    let t = c.args.self.now in
    let old = c.args.events.now in
    let mid = c.note_without_numbers.new.events in
    let new = c.note.new.self in
    let came = option_map (λ (b : Bor (List ℕ)). b.now) t.came in
    let first = rejection_lines t.serial t.number (option_map (λ (r : Bor Reply). r.now) t.reply) t.rejected.card in
    let cards = exhausted_of t.rejected.lines.now in
    noted_then g.E.Write.contents old mid new (first ++ cards) _ (noted_then g.E.Write.contents old c.note_rejection.new.events mid first cards c.note_rejection.ensures c.note_without_numbers.ensures)
    (subst (IsNoted g.E.Write.contents mid new) (again_some t.number t.tries came c.if-self-gt0.true)
    (noted_line g.E.Write.contents mid new c.again_line.result (again_line t.number t.tries came) c.again_line.ensures c.note.ensures.level c.note.ensures.noted))

pub returns-else-self-gt0 : goal.returns-else-self-gt0
returns-else-self-gt0 g c =
    let t = c.args.self.now in
    let old = c.args.events.now in
    let new = c.note_without_numbers.new.events in
    let came = option_map (λ (b : Bor (List ℕ)). b.now) t.came in
    let first = rejection_lines t.serial t.number (option_map (λ (r : Bor Reply). r.now) t.reply) t.rejected.card in
    let cards = exhausted_of t.rejected.lines.now in
    noted_then g.E.Write.contents old new new (first ++ cards) _ (noted_then g.E.Write.contents old c.note_rejection.new.events new first cards c.note_rejection.ensures c.note_without_numbers.ensures)
    (lost g.E.Write.contents new new _ refl)
