-- Lemmas about a connection that changes nothing.
use Rattle.std.proofs.Common.{◌≡◌, ℕ, Bool, false, List, Err, refl, sym, subst, ◌∙◌, inl, inr, ⊎_elim}
use Rattle.std.proofs.lemmas.Bool.{false≢true}
use Rattle.job_facts.specs.declared.store.StoreFault.TheVariants.{Memory}
use Rattle.job_facts.specs.Contents.{Contents}
use Rattle.job_facts.specs.Store.{State}
use Rattle.reply_store.specs.Runs.{arrived}
use Rattle.reply_store.proofs.Handling.{Stays-refl, handles_stays}
use Rattle.http_requests.specs.declared.ask.Asked.TheVariants as asked
use Rattle.http_messages.specs.declared.fixed.FixedReply.TheVariants.{Storage}
use Rattle.http_messages.specs.Messages.{HasHead}
use Rattle.http_messages.specs.FixedReplies.{refusal_text}
use Rattle.server.specs.declared.served.Served.{Served}
use Rattle.http_requests.specs.Meant.{Meant, Broken, Refused, Asks, Means}
use Rattle.server.specs.Replies.{IsWritten}
use Rattle.server.specs.Exchanges.{Does, Exchange, IsNext, Serves}
use Rattle.server.specs.Serving.{MayServe}

does_nothing : (m : Meant) (s : State) → Does m s s false
does_nothing Broken s = (Stays-refl s, refl)
does_nothing (Refused why) s = (Stays-refl s, refl)
does_nothing (Asks (asked.Account w)) s = (Stays-refl s, refl)
does_nothing (Asks (asked.Arrival a)) s = (Err Memory, handles_stays s s (arrived a) Memory (Stays-refl s), refl)

pub hands_out_none : (c : Contents) (m : Meant) (b : Bool) → b ≡ false → IsNext c m b
hands_out_none c Broken b undecided = tt
hands_out_none c (Refused why) b undecided = tt
hands_out_none c (Asks (asked.Account w)) b undecided = tt
hands_out_none c (Asks (asked.Arrival a)) b undecided = λ was_decided. absurd (false≢true (sym undecided ∙ was_decided))

pub unavailable : (m : Meant) (s : State) (served : Served) (written : List ℕ) → served.decided ≡ false → IsWritten served.end (refusal_text Storage) written → MayServe m s s served written
unavailable m s served written undecided is = record {
  does = subst (λ (b : Bool). Does m s s b) (sym undecided) (does_nothing m s);
  answered = λ h c held. inr (undecided, is);
  fixed = λ none c. inr (undecided, is);
  next = λ c held. hands_out_none c m served.decided undecided;
}

-- after a valid head, the store may be unavailable
pub serves_behind : (old new : State) (e : Exchange) → HasHead e.input → Means e.input e.meant → MayServe e.meant old new e.served e.written → Serves old new e
serves_behind old new e head means may = record {
  means = means;
  does = may.does;
  answered = λ h c held. ⊎_elim (λ answer. inl answer) (λ other. inr (head, other)) (may.answered h c held);
  fixed = λ none c. ⊎_elim (λ answer. inl answer) (λ other. inr (head, other)) (may.fixed none c);
  next = may.next;
}
