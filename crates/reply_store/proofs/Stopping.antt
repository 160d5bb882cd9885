-- Lemmas about a crash during an arrival, about opening the store afterwards, and about lists with
-- such crashes.
use Rattle.std.proofs.Common.{◌≡◌, ◌⊎◌, Bool, List, [], ◌∷◌, ◌++◌, true, false, Some, Ok, inl, inr, refl, sym, subst, append-nil, append_assoc}
use Rattle.job_facts.specs.Contents.{AreSame, AreSound, Contents}
use Rattle.job_facts.specs.Reopening.{FindsEither, OpensAfter, OpensWith, OpensWithEither}
use Rattle.job_facts.specs.Store.{IsFound, IsHonest, State}
use Rattle.job_facts.proofs.NextContents.{AreSame-refl, AreSame-trans}
use Rattle.arrivals.specs.declared.kept.Kept.{Kept}
use Rattle.arrivals.specs.Laws.{AreAnsweredAlike}
use Rattle.arrivals.specs.Meaning.{Arrived, contents_after}
use Rattle.arrivals.proofs.MeaningLemmas.{same_contents}
use Rattle.arrivals.proofs.MeaningLists.{contents_after-append}
use Rattle.reply_store.specs.Handled.{Handles}
use Rattle.reply_store.specs.Stops.{AreDecidedIn, AreSteps, Goes, Step, StopsAt}
use Rattle.reply_store.proofs.Running.{is_first}

-- ---- one arrival

module _ {S : Type 0} (state : S → State) (opened stopped : S) (c : Contents) (a : Arrived) (opens : OpensWith (state opened) c) (it : StopsAt state opened stopped a) where
  pub finds_whole : FindsEither (state stopped).may_leave c (contents_after c (a ∷ []))
  finds_whole d left = elim (it.handles.crash it.honest c d opens.holds left) [
    | inl before ↦ inl (opens.crash d before)
    | inr after ↦ inr after
  ]

  pub opens_whole : (again : S) → OpensAfter (state stopped) (state again) → OpensWithEither (state again) c (contents_after c (a ∷ []))
  opens_whole again after = (after.0, after.2, finds_whole (Some after.0) after.1)

-- an arrival that got a reply leaves the contents after it, and a crash leaves only these
answered : (old new : State) (c : Contents) (a : Arrived) (k : Kept) → AreSound c → OpensWith old c → Handles old new a (Ok k) → IsHonest new → OpensWith new (contents_after c (a ∷ []))
answered old new c a k sound opens handles honest = record {
  holds = handles.ok honest c opens.holds;
  crash = λ d left. elim (is_first c a sound) [
    | inl first ↦ handles.settled honest c d opens.holds first left
    | inr again ↦ elim (handles.crash honest c d opens.holds left) [
      | inl before ↦ subst (IsFound d) (sym again) (opens.crash d before)
      | inr after ↦ after
    ]
  ];
}

-- ---- lists

module _ {S : Type 0} (state : S → State) (sound : (s : S) (c : Contents) → (state s).holds c → AreSound c) (alike : AreAnsweredAlike) (c : Contents) (fine : AreSound c) where
  -- a store is opened with the contents after the arrivals `earlier`
  abbrev pub Reaches : S → List Arrived → Type 0
  Reaches s earlier = (d : Contents) × OpensWith (state s) d × AreSame d (contents_after c earlier)

  one_more : (earlier : List Arrived) (d : Contents) (a : Arrived) → AreSound d → AreSame d (contents_after c earlier) → AreSame (contents_after d (a ∷ [])) (contents_after c (earlier ++ a ∷ []))
  one_more earlier d a good same =
      subst (AreSame (contents_after d (a ∷ []))) (sym (contents_after-append c earlier (a ∷ []) fine.above)) (alike d (contents_after c earlier) a good same).1

  -- the arrival is decided, or the server crashed during it
  abbrev pub ReachesBehind : S → List Arrived → Arrived → Bool → Type 0
  ReachesBehind s earlier a stops = Reaches s (earlier ++ a ∷ []) ⊎ ((stops ≡ true) × Reaches s earlier)

  behind : (earlier : List Arrived) (s : S) (a : Arrived) (stops : Bool) (next : S) → Reaches s earlier → Goes state s a stops next → ReachesBehind next earlier a stops
  behind earlier s a false next (d, opens, same) (k, handles, honest) =
      let good = sound s d opens.holds in
      inl (contents_after d (a ∷ []), answered (state s) (state next) d a k good opens handles honest, one_more earlier d a good same)
  behind earlier s a true next (d, opens, same) (stopped, stops, after) =
      let again = opens_whole state s stopped d a opens stops next after in
      elim again.2 [
        | inl before ↦ inr (refl, (again.0, again.1, AreSame-trans again.0 d (contents_after c earlier) before same))
        | inr decided ↦ inl (again.0, again.1, AreSame-trans again.0 (contents_after d (a ∷ [])) (contents_after c (earlier ++ a ∷ [])) decided (one_more earlier d a (sound s d opens.holds) same))
      ]

  abbrev pub ReachesAfter : S → List Arrived → List (Step S) → Type 0
  ReachesAfter last earlier steps = (decided : List Arrived) × AreDecidedIn steps decided × Reaches last (earlier ++ decided)

  steps_leave : (earlier : List Arrived) (s last : S) (steps : List (Step S)) → Reaches s earlier → AreSteps state s steps last → ReachesAfter last earlier steps
  steps_leave earlier s last [] stands same = ([], refl, subst (λ s. Reaches s (earlier ++ [])) same (subst (Reaches s) (sym (append-nil earlier)) stands))
  steps_leave earlier s last (t ∷ steps) stands (goes, rest) = elim (behind earlier s t.arrival t.stops t.store stands goes) [
    | inl decided ↦
        let more = steps_leave (earlier ++ t.arrival ∷ []) t.store last steps decided rest in
        (t.arrival ∷ more.0, (more.0, more.1, inl refl), subst (Reaches last) (append_assoc earlier (t.arrival ∷ []) more.0) more.2)
    | inr undecided ↦
        let more = steps_leave earlier t.store last steps undecided.1 rest in
        (more.0, (more.0, more.1, inr (undecided.0, refl)), more.2)
  ]

  pub left_with_stops : (first last : S) (steps : List (Step S)) → OpensWith (state first) c → AreSteps state first steps last → ReachesAfter last [] steps
  left_with_stops first last steps opens are = steps_leave [] first last steps (c, opens, subst (AreSame c) (sym (same_contents c fine.above)) (AreSame-refl c)) are
