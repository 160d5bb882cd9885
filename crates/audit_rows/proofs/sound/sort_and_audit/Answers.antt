use Rattle.std.proofs.Common.{◌≡◌, Bool, true, false, not, refl, sym, ◌∙◌}
use Rattle.std.proofs.lemmas.Bool.{false≢true}
use Rattle.audit_rows.proofs.sound.sort_and_audit.Goals as goal

-- a check whose result is the negation of another
opposite : {B : Type 0} (some none : Bool) → some ≡ not none → (some ≡ false → B) × (B → some ≡ false) → (none ≡ true → B) × (B → none ≡ true)
opposite some true is tested = (λ e. tested.0 is, λ b. refl)
opposite some false is tested = (λ e. absurd (false≢true e), λ b. absurd (false≢true (sym (tested.1 b) ∙ is)))

pub returns-clause-exact : goal.returns-clause-exact
returns-clause-exact c = opposite _ c.is_none.result c.is_none.ensures c.in_ok-failing.ensures.sound
