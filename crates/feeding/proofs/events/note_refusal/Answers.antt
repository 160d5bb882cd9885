use Rattle.std.proofs.Common.{◌∙◌, ◌∷◌, [], ap, sym, ℕ, List, Bor, option_map, eq-eqb, ne_eqb, true, false}
use Rattle.feeding.specs.Events.{refused_line, used_line}
use Rattle.feeding.proofs.Noting.{noted_line, noted_refusal, noted_spoiled, noted_then}
use Rattle.feeding.proofs.events.note_refusal.Goals as goal

abbrev named : ℕ × Bor (List ℕ) → ℕ × List ℕ
named r = (r.0, r.1.now)

pub returns-in_default : goal.returns-in_default
returns-in_default g c =
    noted_spoiled g.E.Write.contents c.args.events.now c.note.new.self c.args.serial c.args.number _ _ (ap (option_map named) c.in_default.is) c.refusal_in.ensures
    (noted_line g.E.Write.contents c.args.events.now c.note.new.self c.spoiled_line.result _ c.spoiled_line.ensures c.note.ensures.level c.note.ensures.noted)

pub returns-then-code : goal.returns-then-code
returns-then-code g c =
    noted_refusal g.E.Write.contents c.args.events.now c.note-then-code.new.self c.args.serial c.args.number c.in-Some.code c.in-Some.name.now _ true (sym (ap (option_map named) c.in-Some.is) ∙ c.refusal_in.ensures)
    (eq-eqb c.in-Some.code 72 (c.if-code.true ∙ c.code.ensures))
    (noted_then g.E.Write.contents c.args.events.now c.note-2.new.self c.note-then-code.new.self (refused_line c.args.serial c.args.number c.in-Some.code c.in-Some.name.now ∷ []) (used_line c.args.number ∷ [])
    (noted_line g.E.Write.contents c.args.events.now c.note-2.new.self c.refused_line.result _ c.refused_line.ensures c.note-2.ensures.level c.note-2.ensures.noted)
    (noted_line g.E.Write.contents c.note-2.new.self c.note-then-code.new.self c.used_line.result _ c.used_line.ensures c.note-then-code.ensures.level c.note-then-code.ensures.noted))

pub returns-else-code : goal.returns-else-code
returns-else-code g c =
    noted_refusal g.E.Write.contents c.args.events.now c.note-2.new.self c.args.serial c.args.number c.in-Some.code c.in-Some.name.now _ false (sym (ap (option_map named) c.in-Some.is) ∙ c.refusal_in.ensures)
    (ne_eqb c.in-Some.code 72 (λ same. c.if-code.false (same ∙ sym c.code.ensures)))
    (noted_line g.E.Write.contents c.args.events.now c.note-2.new.self c.refused_line.result _ c.refused_line.ensures c.note-2.ensures.level c.note-2.ensures.noted)
