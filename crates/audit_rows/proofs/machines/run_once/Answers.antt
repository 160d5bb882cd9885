use Rattle.std.proofs.Common.{◌≡◌, ◌∙◌, List, ℕ, false, ap, map}
use Rattle.std.specs.Prelude.{bytes_eq}
use Rattle.audit_rows.proofs.MachineLemmas.{once_runs, runs_once}
use Rattle.audit_rows.proofs.OnceLemmas.{checks_read, name_in}
use Rattle.audit_rows.proofs.machines.run_once.Goals as goal

pub returns : goal.returns
returns c =
    checks_read (λ (m n : List ℕ). bytes_eq n m ≡ false) name_in c.deref.result.now _ (ap (map name_in) c.deref.ensures.value ∙ c.in_ok-machines.ensures)
    c.are_once.result (runs_once c.args.sessions.now) (once_runs c.args.sessions.now) c.are_once.ensures
