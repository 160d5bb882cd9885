use Rattle.std.proofs.Common.{refl}
use Rattle.job_facts.proofs.SoundFacts.{sound_batch}
use Rattle.job_core.proofs.decision.products.taken_in.Goals as goal

pub returns-in-Ok-clause-value : goal.returns-in-Ok-clause-value
returns-in-Ok-clause-value c = λ f sound new there few number.
    let totals = c.in-Ok.ensures.totals in
    record {
      step_is = rw (totals.1, totals.3, totals.4) refl;
      keeps = record {
        before = record { next = number; product = there; rows = totals.0; read = totals.1; counted = totals.4 };
        sound = sound_batch f _ c.args.product totals.0 sound new there totals.1 totals.2 few c.is_a_name.ensures;
        after = tt;
      };
    }
