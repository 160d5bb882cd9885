use Rattle.std.proofs.Common.{◌≡◌, IfOk, Option, Some, map, subst}
use Rattle.drill.specs.declared.line.Line.{Line as Parsed}
use Rattle.drill.specs.ScriptLines.{Ask, Line, line_of, shown_line}
use Rattle.drill.specs.Scripts.{shown}
use Rattle.drill.specs.Steps.{ByLine, effect_of}
use Rattle.drill.proofs.ScriptLemmas.{text_of}
use Rattle.drill.proofs.step.step.Goals as goal

pub returns-in-Some-Ask-clause-steps : goal.returns-in-Some-Ask-clause-steps
returns-in-Some-Ask-clause-steps g c =
    let is : Some (Ask (shown c.in-Some-Ask.step)) ≡ line_of c.args.line.now =
    subst (λ (l : Parsed). Some (shown_line l) ≡ line_of c.args.line.now) c.in-Some-Ask.field-0-is c.in-Some-Ask.ensures.value in
    subst (λ (l : Option Line). IfOk c.ask.result (λ did. ByLine g.S.JobStore.state c.args.store.now c.ask.new.store c.args.floor.now (map text_of c.args.behind.now) l (effect_of c.args.floor.now did)))
    is (c.ask.ensures.asks c.args.floor.now)
