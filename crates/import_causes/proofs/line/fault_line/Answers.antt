use Rattle.std.proofs.Common.{rules, ◌≡◌, ◌∙◌, ℕ}
use Rattle.std.specs.Prelude.{option_map}
use Rattle.std.proofs.lemmas.Iterator.Adapters.{option_map_id}
use Rattle.import_causes.proofs.line.fault_line.Goals as goal

pub returns : goal.returns
returns c =
    let e = c.args.explanation in
    let other : c.map.result ≡ option_map (λ (n : ℕ). n) e.other = search rules in
    let field : c.map-2.result ≡ option_map (λ (n : ℕ). n) e.blame.field = search rules in
    search (rules, other ∙ option_map_id e.other, field ∙ option_map_id e.blame.field)
