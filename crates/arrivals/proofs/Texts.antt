-- Proves that the values of replies have no floating-point numbers.
use Rattle.std.proofs.Common.{◌≡◌, false, refl}
use Rattle.serde_json.specs.Written.{has_float}
use Rattle.job_facts.specs.declared.reply.Reply.{Reply}
use Rattle.job_facts.specs.declared.reply.Reply.TheVariants.{Product}
use Rattle.arrivals.specs.Values.{value_of}

pub no_float : (r : Reply) → has_float (value_of r) ≡ false
no_float (Product p made) = refl
no_float _ = refl
