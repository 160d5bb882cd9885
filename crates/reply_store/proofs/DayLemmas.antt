-- Lemmas about the contents after several runs of a server.
use Rattle.std.proofs.Common.{◌≡◌, ◌∙◌, List, [], ◌∷◌, ◌++◌, map, Option, None, Some, inl, inr, refl, sym, subst, append-nil, append_assoc}
use Rattle.std.proofs.lemmas.List.Elements.{filter_passes}
use Rattle.job_facts.specs.Contents.{AreSame, AreSound, Contents, is_above}
use Rattle.job_facts.specs.Reopening.{OpensAfter, OpensWith}
use Rattle.job_facts.specs.Store.{IsFound, IsHonest, State}
use Rattle.job_facts.proofs.NextContents.{AreSame-refl, AreSame-trans}
use Rattle.arrivals.specs.Laws.{AreAbove, AreAnsweredAlike}
use Rattle.arrivals.specs.Meaning.{Arrived, contents_after, entries_of, firsts, marks_after, number_of}
use Rattle.arrivals.proofs.MeaningLemmas.{same_contents}
use Rattle.arrivals.proofs.MeaningLists.{contents_after-append}
use Rattle.reply_store.specs.Days.{AreRuns, Run, TookEffect, TookInRuns, all_tried}
use Rattle.reply_store.specs.Runs.{Leaves, Tried, decided}

-- after any arrivals, no kept reply has a released number
above_list : (c : Contents) (arrivals : List Arrived) → AreAbove (contents_after c arrivals)
above_list c arrivals =
    let new = firsts (map number_of c.kept) c.marks arrivals in
    filter_passes (is_above (marks_after c.marks new)) (c.kept ++ entries_of c.facts c.marks new)

-- what is found is the same, except for the order of sets
pub found_same : (d : Option Contents) (b e : Contents) → IsFound d b → AreSame b e → IsFound d e
found_same None b e found same = found
found_same (Some d) b e found same = AreSame-trans d b e found same

module _ {S : Type 0} (state : S → State) (sound : (s : S) (c : Contents) → (state s).holds c → AreSound c) (alike : AreAnsweredAlike) (c : Contents) (fine : AreSound c) where
  -- a store is opened with the contents after the arrivals `earlier`
  abbrev pub Reaches : S → List Arrived → Type 0
  Reaches s earlier = (d : Contents) × OpensWith (state s) d × AreSame d (contents_after c earlier)

  -- a store is opened with the contents after `earlier` and after the arrivals of a run that took
  -- effect
  abbrev pub ReachesBehind : S → List Arrived → List Tried → Type 0
  ReachesBehind s earlier tried = (own : List Arrived) × TookEffect tried own × Reaches s (earlier ++ own)

  -- what an open finds after a crash at the end of a run: the contents after `earlier` and after the
  -- arrivals of the run that took effect
  abbrev pub FindsBehind : List Arrived → List Tried → Option Contents → Type 0
  FindsBehind earlier tried d = (own : List Arrived) × TookEffect tried own × IsFound d (contents_after c (earlier ++ own))

  pub run_finds : (earlier : List Arrived) (s last : S) (tried : List Tried) → Reaches s earlier → Leaves (state s) (state last) tried → IsHonest (state last) → (d : Option Contents) → (state last).may_leave d
      → FindsBehind earlier tried d
  run_finds earlier s last tried (b, opens, same) leaves honest d left =
      let before = contents_after c earlier in
      let now = contents_after b (decided tried) in
      let wanted = contents_after before (decided tried) in
      let both : AreSame now wanted = leaves.alike honest b before opens.holds (above_list c earlier) same in
      let joined : contents_after c (earlier ++ decided tried) ≡ wanted = contents_after-append c earlier (decided tried) fine.above in
      let by_decided : IsFound d now → FindsBehind earlier tried d =
      λ is. (decided tried, inl refl, subst (IsFound d) (sym joined) (found_same d now wanted is both)) in
      elim (leaves.crash honest b d opens.holds left) [
        | inl found ↦ by_decided found
        | inr rest ↦ elim rest [
          | inl pending ↦
              let a = pending.1 in
              let held : AreSound now = sound last now (leaves.contents honest b opens.holds) in
              let more : AreSame (contents_after now (a ∷ [])) (contents_after wanted (a ∷ [])) = (alike now wanted a held both).1 in
              let joined_more : contents_after c (earlier ++ (decided tried ++ a ∷ [])) ≡ contents_after wanted (a ∷ [])
              = contents_after-append c earlier (decided tried ++ a ∷ []) fine.above ∙ contents_after-append before (decided tried) (a ∷ []) (above_list c earlier) in (
                decided tried ++ a ∷ [],
                inr (pending.0, a, pending.2, refl),
                subst (IsFound d) (sym joined_more) (found_same d (contents_after now (a ∷ [])) (contents_after wanted (a ∷ [])) pending.4 more),
              )
          | inr unchanged ↦ by_decided (subst (IsFound d) (sym unchanged.0) (opens.crash d unchanged.1))
        ]
      ]

  run_leaves : (earlier : List Arrived) (s last next : S) (tried : List Tried) → Reaches s earlier → Leaves (state s) (state last) tried → IsHonest (state last) → OpensAfter (state last) (state next)
      → ReachesBehind next earlier tried
  run_leaves earlier s last next tried stands leaves honest (e, left, again) =
      let found = run_finds earlier s last tried stands leaves honest (Some e) left in
      (found.0, found.1, (e, again, found.2))

  abbrev pub ReachesAfter : S → List Arrived → List (Run S) → Type 0
  ReachesAfter last earlier runs = (took : List Arrived) × TookInRuns (all_tried runs) took × Reaches last (earlier ++ took)

  runs_leave : (earlier : List Arrived) (first last : S) (runs : List (Run S)) → Reaches first earlier → AreRuns state first runs last → ReachesAfter last earlier runs
  runs_leave earlier first last [] stands same = ([], refl, subst (λ s. Reaches s (earlier ++ [])) same (subst (Reaches first) (sym (append-nil earlier)) stands))
  runs_leave earlier first last (r ∷ runs) stands (leaves, honest, opened) =
      let one = run_leaves earlier first r.last opened.0 r.tried stands leaves honest opened.1 in
      let more = runs_leave (earlier ++ one.0) opened.0 last runs one.2 opened.2 in
      (one.0 ++ more.0, (one.0, more.0, one.1, more.1, refl), subst (Reaches last) (append_assoc earlier one.0 more.0) more.2)

  pub left_by_runs : (first last : S) (runs : List (Run S)) → OpensWith (state first) c → AreRuns state first runs last → ReachesAfter last [] runs
  left_by_runs first last runs opens are = runs_leave [] first last runs (c, opens, subst (AreSame c) (sym (same_contents c fine.above)) (AreSame-refl c)) are
