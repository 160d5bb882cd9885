-- The main theorem for a list of inputs.
use Rattle.std.proofs.Common.{◌≡◌, ℕ, List, [], ◌++◌, length, map, take, Some, refl, sym, ap, ◌∙◌}
use Rattle.std.proofs.lemmas.List.{take_at, length-map}
use Rattle.std.proofs.lemmas.Option.{same_Some}
use Rattle.job_facts.specs.Contents.{no_contents}
use Rattle.list_store.specs.Lists.{state_of}
use Rattle.job_facts.specs.Contents.{Contents}
use Rattle.server.specs.Exchanges.{Entry, Exchange, IsServed, Moves, Queue, ServesAll, shown}

abbrev brought : Exchange → List ℕ
brought e = e.input

pub served_is : (inputs : List (List ℕ)) (turns : ℕ) (q0 q1 : Queue) (before after : Contents) (es : List Exchange)
    → q0.done ≡ [] → q0.coming ≡ inputs → (state_of before).holds no_contents
    → Moves (Some q0) (Some q1) es → ServesAll (state_of before) (state_of after) es → length es ≡ turns
    → IsServed (take turns inputs) q1.done after es
served_is inputs turns q0 q1 before after es none all empty (rest, came, now) serves count = record {
  brought = sym (take_at (map brought es) rest turns (length-map es brought ∙ count)) ∙ ap (take turns) (sym came ∙ all);
  kept = ap (λ (q : Queue). q.done) (same_Some q1 _ now) ∙ ap (λ (done : List Entry). done ++ map shown es) none;
  means = serves.means;
  answered = serves.answered refl no_contents empty;
  next = serves.next refl no_contents empty;
  left = (serves.leaves.contents refl no_contents empty).0;
}
