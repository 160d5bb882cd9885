-- Lemmas about the observation of an exchange.
use Rattle.std.proofs.Common.{◌≡◌, ℕ, Bool, List, Option, ap, subst, sym}
use Rattle.std.specs.Prelude.{is_some}
use Rattle.std.specs.Io.KnownBytes.{Appends}
use Rattle.std.proofs.Math.Logic.{∥∥₁_elim}
use Rattle.job_facts.specs.Store.{State}
use Rattle.http_messages.specs.Messages.{Agrees}
use Rattle.http_requests.specs.declared.meaning.Meaning.{Meaning}
use Rattle.server.specs.Exchanges.{Exchange, IsMeaningOf}
use Rattle.server.specs.declared.served.Served.{Served}
use Rattle.server_run.specs.Bytes.{IsReplyOf, KeepsRead, KeepsReply}
use Rattle.server_run.specs.ImportLines.{ReadsProduct}
use Rattle.server_run.specs.Observations.{IsObservationOf}
use Rattle.server_run.specs.declared.observation.Observation.{Observation}
use Rattle.server_run.proofs.KeptLemmas.{IsBeginning-prop, IsReplyOf-prop, read-begins, reply-is}

pub observes : (brings left before after : Option (List ℕ)) (e : Exchange) (o : Observation) → Agrees brings e.input → Appends before after e.written → e.served ≡ o.served → IsMeaningOf o.meaning e.meant
    → ∥ KeepsRead brings left o.request ∥₁ → ∥ KeepsReply o.served.end before after o.reply ∥₁ → IsObservationOf (is_some brings) (is_some before) e o
observes brings left before after e o input written same meant request reply = record {
  served = sym same;
  meant = meant;
  request = λ known. ∥∥₁_elim request (IsBeginning-prop o.request e.input) (λ kept. read-begins brings left o.request e.input input kept known);
  reply = λ known.
      subst (λ (served : Served). IsReplyOf served.end o.reply e.written) (sym same)
      (∥∥₁_elim reply (IsReplyOf-prop o.served.end o.reply e.written) (λ kept. reply-is before after o.served.end o.reply e.written written kept known));
}

-- an observation of an exchange stays one if its product and its later fault counters are replaced
pub observes-alike : (brought written : Bool) (e : Exchange) (p o : Observation) → o ≡ record p { product = o.product; after = o.after }
    → IsObservationOf brought written e p → IsObservationOf brought written e o
observes-alike brought written e p o is one =
    subst (IsObservationOf brought written e) (sym is) (record { served = one.served; meant = one.meant; request = one.request; reply = one.reply })

-- the product was read for an observation with the same meaning
pub product-alike : (old new : State) (p o : Observation) → o ≡ record p { product = o.product; after = o.after }
    → ReadsProduct old new p.meaning o.product → ReadsProduct old new o.meaning o.product
product-alike old new p o is read = subst (λ (m : Meaning). ReadsProduct old new m o.product) (sym (ap (λ (x : Observation). x.meaning) is)) read
