use Rattle.std.proofs.Common.{◌∙◌, List, map, sym, ap, Bool, ℕ, Bor}
use Rattle.std.specs.Prelude.{if◌then◌else◌, Some}
use Rattle.feeding.specs.declared.flaw.Flaw.TheVariants.{Space}
use Rattle.feeding.specs.Flaws.{flaw_by}
use Rattle.feeding.proofs.Flaws.{flaw_seen}
use Rattle.feeding.proofs.flaw.flaw_of.Goals as goal

pub returns-then-has_empty-clause-value : goal.returns-then-has_empty-clause-value
returns-then-has_empty-clause-value c =
    let found = c.as_slice.result.now in
    sym (ap (λ (b : Bool). if b then Some Space else flaw_by (map (λ (w : Bor (List ℕ)). w.now) found)) c.if-has_empty.true)
    ∙ flaw_seen c.args.line.now found c.has_empty.result (sym c.is_empty.ensures ∙ c.if-is_empty.false) (sym c.ends_with.ensures.value ∙ c.if-ends_with.false)
    (ap (map (λ (w : Bor (List ℕ)). w.now)) c.as_slice.ensures.value ∙ c.in_ok-words.ensures) c.has_empty.ensures

pub returns-clause-value : goal.returns-clause-value
returns-clause-value c =
    let found = c.as_slice.result.now in
    c.flaw_by.ensures ∙ ap (λ l. flaw_by (map (λ (w : Bor (List ℕ)). w.now) l)) (c.as_slice-2.ensures.value ∙ sym c.as_slice.ensures.value)
    ∙ sym (ap (λ (b : Bool). if b then Some Space else flaw_by (map (λ (w : Bor (List ℕ)). w.now) found)) c.if-has_empty.false)
    ∙ flaw_seen c.args.line.now found c.has_empty.result (sym c.is_empty.ensures ∙ c.if-is_empty.false) (sym c.ends_with.ensures.value ∙ c.if-ends_with.false)
    (ap (map (λ (w : Bor (List ℕ)). w.now)) c.as_slice.ensures.value ∙ c.in_ok-words.ensures) c.has_empty.ensures
