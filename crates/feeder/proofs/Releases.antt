-- The release mark of every client, including an office, has reached each of its accepted releases
-- whose request bytes belong to one request.
use Rattle.std.proofs.Common.{◌≡◌, ◌≤◌, ◌==◌, ◌&&◌, ℕ, List, [], ◌∷◌, ◌++◌, length, All, Some, refl, sym, ap, ◌∙◌, subst, inl, inr, arith}
use Rattle.std.specs.Prelude.{bytes_eq, slice_get}
use Rattle.std.proofs.Math.Seq.{take-append_seam}
use Rattle.std.proofs.lemmas.Bool.{cases_Bool, cond-true, cond-false}
use Rattle.std.proofs.lemmas.List.Elements.{All-nil, All-push, All-take, All-weaker}
use Rattle.std.proofs.lemmas.Option.{slice_get_within}
use Rattle.job_facts.specs.declared.reply.Reply.TheVariants.{NumberReleased}
use Rattle.job_facts.specs.declared.request.Call.{Call}
use Rattle.job_facts.specs.declared.request.Call.TheVariants.{Release}
use Rattle.job_facts.specs.Facts.{Facts}
use Rattle.job_facts.specs.Contents.{Contents, Entry, Mark, entry_of, mark_of, no_contents}
use Rattle.job_facts.proofs.Lists.{find-All, slice_get-append_left}
use Rattle.arrivals.specs.HttpReplies.{HttpReply, http_reply_of, reused, status_of}
use Rattle.arrivals.specs.Laws.{AreAbove}
use Rattle.arrivals.specs.Meaning.{Arrived, contents_after, contents_with, http_reply_by, http_reply_on, marks_by, marks_with, reply_by, reply_to}
use Rattle.arrivals.proofs.MeaningLemmas.{decided_by, entry_is, kept_with, marks_grow}
use Rattle.feeder.specs.World.{Answered}
use Rattle.feeder.specs.ShopFloor.{IsOneRequest}
use Rattle.feeder.proofs.Arriving.{release_fits}
use Rattle.feeder.proofs.Events.{last_at}
use Rattle.feeder.proofs.Going.{all_at, same_name}

-- entry `e` keeps the reply to a decided arrival; if the arrival is an accepted release, the
-- release mark of its client has reached it
pub record IsKeptOf (marks : List Mark) (decided : List Answered) (e : Entry) : Type 0 where
  pub one : Answered
  pub at : ℕ
  pub there : slice_get decided at ≡ Some one
  pub client : one.arrival.client ≡ e.client
  pub number : one.arrival.number ≡ e.number
  pub ask : one.arrival.ask ≡ e.ask
  pub reached : (upto : ℕ) → one.arrival.request ≡ Release upto → e.status ≡ 200 → upto ≤ mark_of marks e.client

abbrev pub HasReached : List Mark → List Answered → Answered → Type 0
HasReached marks decided g = (upto : ℕ) → g.arrival.request ≡ Release upto → g.http_reply.status ≡ 200 → IsOneRequest decided g.arrival → upto ≤ mark_of marks g.arrival.client

pub record ReleasesStand (c : Contents) (decided : List Answered) : Type 0 where
  pub kept : All (IsKeptOf c.marks decided) c.kept
  pub reached : All (HasReached c.marks decided) decided

pub none_stand : ReleasesStand no_contents []
none_stand = record { kept = All-nil (IsKeptOf no_contents.marks []); reached = All-nil (HasReached no_contents.marks []) }

-- ---- another decided arrival

-- `IsOneRequest` is also true without the last decided arrival.
one_before : (decided : List Answered) (g : Answered) (a : Arrived) → IsOneRequest (decided ++ g ∷ []) a → IsOneRequest decided a
one_before decided g a one =
    let P : Answered → Type 0 = λ h. h.arrival.client ≡ a.client → h.arrival.number ≡ a.number → h.arrival.ask ≡ a.ask → h.arrival.request ≡ a.request in
    subst (All P) (take-append_seam decided (g ∷ [])) (All-take P (length decided) (decided ++ g ∷ []) one)

module _ (c d : Contents) (decided : List Answered) (g : Answered) (grow : (n : List ℕ) → mark_of c.marks n ≤ mark_of d.marks n) where
  kept_more : (e : Entry) → IsKeptOf c.marks decided e → IsKeptOf d.marks (decided ++ g ∷ []) e
  kept_more e is = record {
    one = is.one;
    at = is.at;
    there = slice_get-append_left decided (g ∷ []) is.at (slice_get_within decided is.at is.one is.there) ∙ is.there;
    client = is.client;
    number = is.number;
    ask = is.ask;
    reached = λ upto request ok. omega (arith, is.reached upto request ok, grow e.client);
  }

  reached_more : (b : Answered) → HasReached c.marks decided b → HasReached d.marks (decided ++ g ∷ []) b
  reached_more b is upto request ok one = omega (arith, is upto request ok (one_before decided g b.arrival one), grow b.arrival.client)

  all_kept : All (IsKeptOf c.marks decided) c.kept → All (IsKeptOf d.marks (decided ++ g ∷ [])) c.kept
  all_kept = All-weaker (IsKeptOf c.marks decided) (IsKeptOf d.marks (decided ++ g ∷ [])) kept_more c.kept

  all_reached : All (HasReached c.marks decided) decided → HasReached d.marks (decided ++ g ∷ []) g → All (HasReached d.marks (decided ++ g ∷ [])) (decided ++ g ∷ [])
  all_reached old new = All-push (HasReached d.marks (decided ++ g ∷ [])) decided g (All-weaker (HasReached c.marks decided) (HasReached d.marks (decided ++ g ∷ [])) reached_more decided old) new

-- ---- an arrival

-- If the first arrival with a request number is an accepted release, the release mark of its client
-- reaches it.
first_reaches : (f : Facts) (marks : List Mark) (client : List ℕ) (number : ℕ) (call : Call) (upto : ℕ) → call ≡ Release upto → status_of (reply_by f marks client number call) ≡ 200
    → upto ≤ mark_of (marks_by marks client number call) client
first_reaches f marks client number call upto is =
    let P : Call → Type 0 = λ k. status_of (reply_by f marks client number k) ≡ 200 → upto ≤ mark_of (marks_by marks client number k) client in
    subst P (sym is) (release_fits marks client number upto)

module _ (c : Contents) (a : Arrived) (decided : List Answered) (is : ReleasesStand c decided) where
  abbrev with_reply : HttpReply → List Answered
  with_reply t = decided ++ record { arrival = a; http_reply = t } ∷ []

  -- `ReleasesStand` stays true if the contents don't change.
  same_stand : (t : HttpReply) → HasReached c.marks (with_reply t) (record { arrival = a; http_reply = t }) → ReleasesStand c (with_reply t)
  same_stand t new =
      let g : Answered = record { arrival = a; http_reply = t } in
      let grow : (n : List ℕ) → mark_of c.marks n ≤ mark_of c.marks n = λ n. omega arith in
      record { kept = all_kept c c decided g grow is.kept; reached = all_reached c c decided g grow is.reached new }

  -- If a repeated release gets a kept reply with status 200, the release mark has already reached
  -- it, because the reply belongs to the same request.
  again_reaches : (e : Entry) → entry_of c.kept a.client a.number ≡ Some e → HasReached c.marks (with_reply (http_reply_by a.ask e)) (record { arrival = a; http_reply = http_reply_by a.ask e })
  again_reaches e some upto request ok one =
      let kept : HttpReply = record { status = e.status; body = e.body } in
      elim (cases_Bool (bytes_eq e.ask a.ask)) [
        | inl own ↦
            let of_one = find-All (λ (x : Entry). bytes_eq x.client a.client && (x.number == a.number)) (IsKeptOf c.marks decided) c.kept e is.kept some in
            let number = entry_is c.kept a.client a.number e some in
            let status : e.status ≡ 200 = ap (λ (t : HttpReply). t.status) (sym (cond-true (bytes_eq e.ask a.ask) kept reused own)) ∙ ok in
            let P : Answered → Type 0 = λ h. h.arrival.client ≡ a.client → h.arrival.number ≡ a.number → h.arrival.ask ≡ a.ask → h.arrival.request ≡ a.request in
            let same = all_at P decided of_one.at of_one.one (one_before decided (record { arrival = a; http_reply = http_reply_by a.ask e }) a one) of_one.there in
            let release : of_one.one.arrival.request ≡ Release upto = same (of_one.client ∙ number.0) (of_one.number ∙ number.1) (of_one.ask ∙ same_name e.ask a.ask own) ∙ request in
            subst (λ n. upto ≤ mark_of c.marks n) number.0 (of_one.reached upto release status)
        | inr other ↦
            let refused : 409 ≡ 200 = ap (λ (t : HttpReply). t.status) (sym (cond-false (bytes_eq e.ask a.ask) kept reused other)) ∙ ok in
            absurd (omega (arith, refused))
      ]

  first_stands : ReleasesStand (contents_with c a) (with_reply (http_reply_of (reply_to c.facts c.marks a)))
  first_stands =
      let d = contents_with c a in
      let g : Answered = record { arrival = a; http_reply = http_reply_of (reply_to c.facts c.marks a) } in
      let grow = marks_grow c.marks a in
      let reaches = first_reaches c.facts c.marks a.client a.number a.request in
      record {
        kept = kept_with c a (IsKeptOf (marks_with c.marks a) (decided ++ g ∷ [])) (all_kept c d decided g grow is.kept)
            (record { one = g; at = length decided; there = last_at decided g; client = refl; number = refl; ask = refl; reached = reaches });
        reached = all_reached c d decided g grow is.reached (λ upto request ok one. reaches upto request ok);
      }

  pub decides_stand : AreAbove c → ReleasesStand (contents_after c (a ∷ [])) (with_reply (http_reply_on c a))
  decides_stand are =
      decided_by c a (λ d t. ReleasesStand d (with_reply t)) are
      (λ gone. same_stand (http_reply_of (NumberReleased (mark_of c.marks a.client))) (λ upto request ok one. absurd (omega (arith, ok))))
      (λ e live some. same_stand (http_reply_by a.ask e) (again_reaches e some))
      (λ live none. first_stands)
