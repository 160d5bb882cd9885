-- Lemmas about the contents after one more run of a server.
use Rattle.std.proofs.Common.{◌∙◌, List, [], ◌∷◌, ◌++◌, Option, refl, sym, ap, subst, append-nil, append_assoc}
use Rattle.job_facts.specs.Contents.{AreSame, AreSound, Contents}
use Rattle.job_facts.specs.Reopening.{OpensWith}
use Rattle.job_facts.specs.Store.{IsFound, IsHonest, State}
use Rattle.job_facts.proofs.NextContents.{AreSame-refl}
use Rattle.arrivals.specs.Laws.{AreAnsweredAlike}
use Rattle.arrivals.specs.Meaning.{Arrived, contents_after}
use Rattle.arrivals.proofs.MeaningLemmas.{same_contents}
use Rattle.reply_store.specs.Days.{TookEffect, TookInRuns}
use Rattle.reply_store.specs.Runs.{Leaves, Tried}
use Rattle.reply_store.proofs.DayLemmas.{run_finds as one_finds}
use Rattle.file_runs.specs.Runs.{IsAfterRuns, StartsAfterRuns}

-- the arrivals of one more run that took effect
took_more : (runs : List (List Tried)) (tried : List Tried) (took own : List Arrived) → TookInRuns runs took → TookEffect tried own → TookInRuns (runs ++ tried ∷ []) (took ++ own)
took_more [] tried took own none effect = (own, [], effect, refl, ap (λ (l : List Arrived). l ++ own) none ∙ sym (append-nil own))
took_more (first ∷ runs) tried took own (its, rest, one, others, joined) effect =
    (its, rest ++ own, one, took_more runs tried rest own others effect, ap (λ (l : List Arrived). l ++ own) joined ∙ append_assoc its rest own)

module _ {S : Type 0} (state : S → State) (sound : (s : S) (c : Contents) → (state s).holds c → AreSound c) (alike : AreAnsweredAlike) (c : Contents) (fine : AreSound c) where
  -- the first run starts with these contents
  pub starts_first : (store : S) → OpensWith (state store) c → StartsAfterRuns (state store) c []
  starts_first store opens = (c, opens, ([], refl, subst (AreSame c) (sym (same_contents c fine.above)) (AreSame-refl c)))

  -- an open finds contents that are possible after all these runs
  abbrev FindsAfter : List (List Tried) → Option Contents → Type 0
  FindsAfter runs d = (e : Contents) × IsAfterRuns c runs e × IsFound d e

  pub run_finds : (first last : S) (runs : List (List Tried)) (tried : List Tried) → StartsAfterRuns (state first) c runs → Leaves (state first) (state last) tried → IsHonest (state last)
      → (d : Option Contents) → (state last).may_leave d → FindsAfter (runs ++ tried ∷ []) d
  run_finds first last runs tried (b, opens, (took, turn, same)) leaves honest d left =
      let one = one_finds state sound alike c fine took first last tried (b, opens, same) leaves honest d left in
      let all = contents_after c (took ++ one.0) in
      (all, (took ++ one.0, took_more runs tried took one.0 turn one.1, AreSame-refl all), one.2)
