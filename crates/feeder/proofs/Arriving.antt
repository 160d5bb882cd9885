-- An arrival at the server keeps `Fine` true and leaves the machines unchanged.
use Rattle.std.proofs.Common.{◌≡◌, ◌≤◌, ◌<◌, ◌^◌, ◌+◌, ◌==◌, ◌&&◌, ℕ, Bool, true, false, cond, List, [], ◌∷◌, ◌++◌, length, map, take, All, Option, Some, refl, sym, ap, ◌∙◌, subst, inl, inr, arith}
use Rattle.std.specs.Prelude.{bytes_eq, nat_le, slice_get, if◌then◌else◌}
use Rattle.std.proofs.lemmas.Bool.{cond_both, cond-true}
use Rattle.std.proofs.lemmas.List.Elements.{All-push, All-weaker}
use Rattle.std.proofs.lemmas.Option.{slice_get_within}
use Rattle.store_data.specs.Sequence.{Command}
use Rattle.job_facts.specs.declared.reply.Reply.{Reply}
use Rattle.job_facts.specs.declared.reply.Reply.TheVariants as reply
use Rattle.job_facts.specs.declared.refusal.Refusal.TheVariants.{ReleaseTooFar}
use Rattle.job_facts.specs.declared.request.Call.{Call}
use Rattle.job_facts.specs.declared.request.Call.TheVariants.{Job, Release}
use Rattle.job_facts.specs.declared.request.Request.TheVariants as request
use Rattle.job_facts.specs.Facts.{Facts, Session}
use Rattle.job_facts.specs.Sound.{IsName, IsSound}
use Rattle.job_facts.specs.States.{commands_for}
use Rattle.job_facts.specs.Steps.{step}
use Rattle.job_facts.specs.Contents.{Contents, Entry, Mark, entry_of, mark_of, with_mark}
use Rattle.job_facts.proofs.Lists.{find-All}
use Rattle.job_facts.proofs.Lists.{slice_get-append_left}
use Rattle.step_laws.specs.Later.{IsLaterSession, Later, WordsWithin}
use Rattle.step_laws.proofs.Growth.{later_same, step_later, step_words}
use Rattle.step_laws.proofs.ReplyFacts.{step_may, step_says}
use Rattle.step_laws.proofs.ReplyRanges.{step_in_range}
use Rattle.step_laws.proofs.SoundSteps.{step_sound}
use Rattle.arrivals.specs.HttpReplies.{HttpReply, http_reply_of, reused, status_of}
use Rattle.arrivals.specs.Laws.{AreAbove}
use Rattle.arrivals.specs.Meaning.{Arrived, contents_with, facts_by, http_reply_by, mark_by, marks_by, reply_by, reply_to}
use Rattle.arrivals.proofs.MeaningLemmas.{decided_by, entry_is, kept_with, mark_below, mark_set, marks_grow, with_above}
use Rattle.wire.specs.ReplyText.{IsReply}
use Rattle.wire.specs.Sending.{ask_of}
use Rattle.feeder.specs.declared.feeder.Stand.{Stand}
use Rattle.feeder.specs.declared.feeder.Stand.TheVariants.{Asks, HasCommand}
use Rattle.feeder.specs.Table.{number_at}
use Rattle.feeder.specs.World.{Answered, Packet, World, arrival_of, decides, is_name_of}
use Rattle.step_laws.proofs.Blanks.{uncharged}
use Rattle.feeder.proofs.Replies.{OpensFree, answer_later, answer_says, good_later, open_later, open_says, opens_free, reply_ranged}
use Rattle.feeder.specs.ShopFloor.{IsRangedCall, IsCountedGood, sequence_of}
use Rattle.feeder.proofs.Fine.{Cards, Machines, Fine, Fits, Fresh, HasCard, HasDone, Holds, IsDecidedFine, IsFineCard, IsFineEntry, IsFinePacket, IsKeptFine, IsAnswered, OpensFresh, got}
use Rattle.feeder.proofs.Going.{all_at, name_same}

-- ---- properties that later facts keep

sequence_later : (f g : Facts) (s : ℕ) (x : Session) (y : IsLaterSession f g s x) → sequence_of g y.now ≡ sequence_of f x
sequence_later f g s x y =
    let bytes_of : List Command → List (List ℕ) = map (λ (c : Command). c.bytes) in
    ap (λ b. bytes_of (commands_for g b y.now.rec)) y.batch ∙ ap (λ r. bytes_of (commands_for g x.batch r)) y.rec ∙ ap bytes_of y.commands

counted_later : (f g : Facts) (serial : ℕ) → Later f g → IsCountedGood f serial → IsCountedGood g serial
counted_later f g serial later is =
    let y = later is.1.number is.0 is.1.there in
    (y.now, record { number = is.1.number; there = y.there; blank = y.blank ∙ is.1.blank }, good_later f g is.1.number is.0 y is.2)

card_later : (f g : Facts) (serial : ℕ) (received : List (List ℕ)) → Later f g → IsFineCard f serial received → IsFineCard g serial received
card_later f g serial received later (inl none) = inl none
card_later f g serial received later (inr is) =
    let y = later is.1.number is.0 is.1.there in
    inr (y.now, record { number = is.1.number; there = y.there; blank = y.blank ∙ is.1.blank }, (is.2.0, is.2.1 ∙ sym (sequence_later f g is.1.number is.0 y)))

has_later : (f g : Facts) (cards : Cards) (name : List ℕ) (card : Option ℕ) (s k : ℕ) → Later f g → HasCard f cards name card s k → HasCard g cards name card s k
has_later f g cards name card s k later is =
    let y = later s is.session is.there in
    let same = sequence_later f g s is.session y in
    record {
      session = y.now;
      there = y.there;
      machine = y.machine ∙ is.machine;
      card_is = is.card_is ∙ ap Some (sym y.blank);
      received = ap (λ v. (cards v).received) y.blank ∙ is.received ∙ ap (take (k + 1)) (sym same);
      within = subst (λ (xs : List (List ℕ)). k < length xs) (sym same) is.within;
    }

holds_later : (f g : Facts) (cards : Cards) (name : List ℕ) (card : Option ℕ) (stand : Stand) → Later f g → Holds f cards name card stand → Holds g cards name card stand
holds_later f g cards name card (HasCommand s k) later is = has_later f g cards name card s k later is
holds_later f g cards name card (Asks (Job (request.Open b blank))) later is = is
holds_later f g cards name card (Asks (Job (request.Answer s k sw))) later is = has_later f g cards name card s k later is
holds_later f g cards name card _ later is = tt

done_later : (f g : Facts) (cards : Cards) (call : Call) → Later f g → HasDone f cards call → HasDone g cards call
done_later f g cards (Job (request.Answer s k sw)) later is =
    let y = later s is.0 is.1 in
    (y.now, y.there, subst (λ v. k < got cards v) (sym y.blank) is.2)
done_later f g cards _ later is = tt

fits_later : (f g : Facts) (marks now : List Mark) (m : List ℕ) (call : Call) (r : Reply) → Later f g → ((n : List ℕ) → mark_of marks n ≤ mark_of now n) → Fits f marks m call r → Fits g now m call r
fits_later f g marks now m (Job (request.Open b blank)) r later grow is = open_later f g m blank r later is
fits_later f g marks now m (Job (request.Answer s k sw)) r later grow is = answer_later f g m s k r later is
fits_later f g marks now m (Release upto) r later grow is = λ ok. omega (arith, is ok, grow m)
fits_later f g marks now m _ r later grow is = tt

answered_later : (f g : Facts) (marks now : List Mark) (cards : Cards) (machines : Machines) (packets : List Packet) (client : List ℕ) (number : ℕ) (http_reply : HttpReply)
    → Later f g → ((n : List ℕ) → mark_of marks n ≤ mark_of now n) → IsAnswered f marks cards machines packets client number http_reply → IsAnswered g now cards machines packets client number http_reply
answered_later f g marks now cards machines packets client number http_reply later grow is = record {
  packet = is.packet;
  at = is.at;
  there = is.there;
  client_is = is.client_is;
  number_is = is.number_is;
  reply = is.reply;
  is = is.is;
  text = is.text;
  fits = fits_later f g marks now is.packet.machine is.packet.call is.reply later grow is.fits;
  fresh = is.fresh;
}

-- ---- new contents

-- the new contents `d` and the decided arrival `g` meet the conditions under which `Fine` stays
-- true
pub record Leads (names : List (List ℕ)) (w : World) (d : Contents) (g : Answered) : Type 0 where
  pub sound : IsSound d.facts
  pub above : AreAbove d
  pub marks : (m : List ℕ) → mark_of d.marks m < 10 ^ 18
  pub words : WordsWithin (got w.cards) d.facts
  pub later : Later w.contents.facts d.facts
  pub grow : (m : List ℕ) → mark_of w.contents.marks m ≤ mark_of d.marks m
  pub kept : All (IsKeptFine names d.facts d.marks w.cards w.machines w.packets) d.kept
  pub new : IsDecidedFine names d.facts d.marks w.cards w.machines w.packets g

entry_later : (names : List (List ℕ)) (f g : Facts) (marks now : List Mark) (cards : Cards) (machines : Machines) (packets : List Packet)
    → Later f g → ((n : List ℕ) → mark_of marks n ≤ mark_of now n) → (e : Entry) → IsKeptFine names f marks cards machines packets e → IsKeptFine names g now cards machines packets e
unfolding answered_later
entry_later names f g marks now cards machines packets later grow e is listed =
    let one = is listed in record { http_reply = answered_later f g marks now cards machines packets e.client e.number (record { status = e.status; body = e.body }) later grow one.http_reply; ask = one.ask }

answer_was : (names : List (List ℕ)) (f g : Facts) (marks now : List Mark) (cards : Cards) (machines : Machines) (packets : List Packet)
    → Later f g → ((n : List ℕ) → mark_of marks n ≤ mark_of now n) → (a : Answered) → IsDecidedFine names f marks cards machines packets a → IsDecidedFine names g now cards machines packets a
unfolding answered_later
answer_was names f g marks now cards machines packets later grow a is listed =
    let one = is listed in record { http_reply = answered_later f g marks now cards machines packets a.arrival.client a.arrival.number a.http_reply later grow one.http_reply; call = one.call }

pub leads_fine : (names : List (List ℕ)) (w : World) (d : Contents) (g : Answered) → Leads names w d g → Fine names w
    → Fine names (record w { contents = d; decided = w.decided ++ g ∷ [] })
leads_fine names w d g leads fine =
    let f = w.contents.facts in
    let marks = w.contents.marks in
    record {
      sound = leads.sound;
      above = leads.above;
      marks = leads.marks;
      words = leads.words;
      cards = λ serial. card_later f d.facts serial (w.cards serial).received leads.later (fine.cards serial);
      put_out = λ serial good. counted_later f d.facts serial leads.later (fine.put_out serial good);
      machines = λ name x is. let was = fine.machines name x is in record {
        feeder = was.feeder;
        name_is = was.name_is;
        listed = was.listed;
        boot = was.boot;
        holds = holds_later f d.facts w.cards name x.card x.feeder.stand leads.later was.holds;
      };
      packets = All-weaker (IsFinePacket f w.cards w.machines w.boots) (IsFinePacket d.facts w.cards w.machines w.boots)
          (λ p is. record { sender = is.sender; there = is.there; sent = is.sent; done = done_later f d.facts w.cards p.call leads.later is.done }) w.packets fine.packets;
      agree = fine.agree;
      kept = leads.kept;
      decided = All-push (IsDecidedFine names d.facts d.marks w.cards w.machines w.packets) w.decided g
          (All-weaker (IsDecidedFine names f marks w.cards w.machines w.packets) (IsDecidedFine names d.facts d.marks w.cards w.machines w.packets)
          (answer_was names f d.facts marks d.marks w.cards w.machines w.packets leads.later leads.grow) w.decided fine.decided)
          leads.new;
      given = All-weaker (λ (a : Answered). (i : ℕ) × (slice_get w.decided i ≡ Some a)) (λ (a : Answered). (i : ℕ) × (slice_get (w.decided ++ g ∷ []) i ≡ Some a))
          (λ a is. (is.0, slice_get-append_left w.decided (g ∷ []) is.0 (slice_get_within w.decided is.0 a is.1) ∙ is.1)) w.replies fine.given;
    }

-- ---- the three cases of an arrival

-- `a` is an arrival in the list of events: of a packet, or from an office, whose name isn't in
-- `names`
pub record IsListedArrival (names : List (List ℕ)) (w : World) (a : Arrived) : Type 0 where
  pub name : IsName a.client
  pub ranged : IsRangedCall a.request
  pub done : HasDone w.contents.facts w.cards a.request
  pub packet : is_name_of names a.client ≡ true → (p : Packet) × (i : ℕ) × (slice_get w.packets i ≡ Some p) × (arrival_of p ≡ a)

-- Equal request numbers have the same boot number and the same place.
pub number_apart : (b p c q : ℕ) → p ≤ 9999999 → q ≤ 9999999 → number_at b p ≡ number_at c q → (b ≡ c) × (p ≡ q)
number_apart b p c q few less same = (omega (arith, same), omega (arith, same))

-- The reply `NumberReleased` satisfies `Fits` and `Fresh` for every request, because both require
-- something only of other replies.
gone_fits : (f : Facts) (marks : List Mark) (m : List ℕ) (call : Call) (mark : ℕ) → Fits f marks m call (reply.NumberReleased mark)
gone_fits f marks m (Job (request.Open b blank)) mark = tt
gone_fits f marks m (Release upto) mark = λ ok. absurd (omega (arith, ok))
gone_fits f marks m _ mark = tt

gone_fresh : (cards : Cards) (call : Call) (mark : ℕ) → Fresh cards call (reply.NumberReleased mark)
gone_fresh cards (Job (request.Open b blank)) mark = tt
gone_fresh cards _ mark = tt

-- ---- the first arrival with a request number

first_sound : (f : Facts) (client : List ℕ) (call : Call) → IsSound f → IsName client → IsRangedCall call → IsSound (facts_by f client call)
first_sound f client (Job r) sound name ranged = step_sound f client r sound name ranged
first_sound f client (Release upto) sound name ranged = sound

first_later : (f : Facts) (client : List ℕ) (call : Call) → IsSound f → Later f (facts_by f client call)
first_later f client (Job r) sound = step_later f client r sound
first_later f client (Release upto) sound = later_same f

first_words : (f : Facts) (cards : Cards) (client : List ℕ) (call : Call) → HasDone f cards call → WordsWithin (got cards) f → WordsWithin (got cards) (facts_by f client call)
first_words f cards client (Job r) done fit = step_words f client r (got cards) done fit
first_words f cards client (Release upto) done fit = fit

first_marks : (marks : List Mark) (client : List ℕ) (number : ℕ) (call : Call) (m : List ℕ) → IsRangedCall call → ((n : List ℕ) → mark_of marks n < 10 ^ 18) → mark_of (marks_by marks client number call) m < 10 ^ 18
first_marks marks client number (Job r) m ranged low = low m
first_marks marks client number (Release upto) m ranged low = mark_below marks client number upto m (10 ^ 18) ranged.1 low

opens_fresh : (f : Facts) (cards : Cards) (blank : ℕ) (r : Reply) → IsFineCard f blank (cards blank).received → OpensFree f blank r → OpensFresh cards blank r
opens_fresh f cards blank (reply.Opened c n command rec s) (inl none) free = none
opens_fresh f cards blank (reply.Opened c n command rec s) (inr is) free = absurd (uncharged f blank is.1.number is.0 free is.1.there is.1.blank)
opens_fresh f cards blank _ card free = tt

first_fresh : (f : Facts) (marks : List Mark) (cards : Cards) (client : List ℕ) (number : ℕ) (call : Call) → IsSound f → ((serial : ℕ) → IsFineCard f serial (cards serial).received) → Fresh cards call (reply_by f marks client number call)
first_fresh f marks cards client number (Job (request.Open b blank)) sound fine =
    let o = step f client (request.Open b blank) in
    opens_fresh f cards blank o.1 (fine blank) (opens_free f o.0 client b blank o.1 (step_may f client (request.Open b blank)) (step_says f client (request.Open b blank) sound))
first_fresh f marks cards client number _ sound fine = tt

-- If the release up to `upto` is accepted, the release mark of `client` is at least `upto`
-- afterwards.
pub release_fits : (marks : List Mark) (client : List ℕ) (number upto : ℕ) → status_of (if nat_le number upto then reply.Refused ReleaseTooFar else reply.Released (mark_by marks client upto)) ≡ 200 → upto ≤ mark_of (marks_by marks client number (Release upto)) client
release_fits marks client number upto = at (nat_le number upto)
  where
    at : (far : Bool) → status_of (cond far (reply.Refused ReleaseTooFar) (reply.Released (mark_by marks client upto))) ≡ 200 → upto ≤ mark_of (cond far marks (with_mark marks client (mark_by marks client upto))) client
    at true ok = absurd (omega (arith, ok))
    at false ok = omega (arith, mark_set marks client (mark_by marks client upto))

first_fits : (f : Facts) (marks : List Mark) (client : List ℕ) (number : ℕ) (call : Call) → IsSound f → IsName client → IsRangedCall call
    → Fits (facts_by f client call) (marks_by marks client number call) client call (reply_by f marks client number call)
first_fits f marks client number (Job (request.Open b blank)) sound name ranged =
    let o = step f client (request.Open b blank) in
    open_says f o.0 client b blank o.1 (step_sound f client (request.Open b blank) sound name ranged) (step_may f client (request.Open b blank)) (step_says f client (request.Open b blank) sound)
first_fits f marks client number (Job (request.Answer s k sw)) sound name ranged =
    let o = step f client (request.Answer s k sw) in
    answer_says f o.0 client s k sw o.1 (step_sound f client (request.Answer s k sw) sound name ranged) (step_may f client (request.Answer s k sw)) (step_says f client (request.Answer s k sw) sound)
first_fits f marks client number (Release upto) sound name ranged = release_fits marks client number upto
first_fits f marks client number _ sound name ranged = tt

-- The reply to the first arrival with a request number satisfies `IsReply`.
first_reply : (f : Facts) (marks : List Mark) (client : List ℕ) (number : ℕ) (call : Call) → IsSound f → IsRangedCall call → ((n : List ℕ) → mark_of marks n < 10 ^ 18)
    → IsReply (reply_by f marks client number call)
first_reply f marks client number (Job r) sound ranged low = reply_ranged r (step f client r).1 (step_may f client r) (step_in_range f client r sound ranged)
first_reply f marks client number (Release upto) sound ranged low =
    cond_both {A = Reply} (nat_le number upto) (reply.Refused ReleaseTooFar) (reply.Released (mark_by marks client upto)) IsReply (λ far. tt) (λ near. omega (arith, low client, ranged.1))

-- An entry under the number of packet `p` of a machine contains the kept reply to the request of
-- `p`.
pub entry_for : (names : List (List ℕ)) (w : World) → Fine names w → (p : Packet) (i : ℕ) (e : Entry) → is_name_of names p.machine ≡ true → slice_get w.packets i ≡ Some p
    → entry_of w.contents.kept p.machine (number_at p.boot p.place) ≡ Some e
    → (one : IsFineEntry w.contents.facts w.contents.marks w.cards w.machines w.packets e) × (one.http_reply.packet.call ≡ p.call)
entry_for names w fine p i e listed there some =
    let c = w.contents in
    let number = number_at p.boot p.place in
    let is = entry_is c.kept p.machine number e some in
    let kept = find-All (λ (x : Entry). bytes_eq x.client p.machine && (x.number == number)) (IsKeptFine names c.facts c.marks w.cards w.machines w.packets) c.kept e fine.kept some in
    let one = kept (ap (is_name_of names) is.0 ∙ listed) in
    let q = one.http_reply.packet in
    let most : (r : Packet) (at : ℕ) → slice_get w.packets at ≡ Some r → r.place ≤ 9999999 = λ r at is. (all_at (IsFinePacket c.facts w.cards w.machines w.boots) w.packets at r fine.packets is).sent.most in
    let places = number_apart q.boot q.place p.boot p.place (most q one.http_reply.at one.http_reply.there) (most p i there) (one.http_reply.number_is ∙ is.1) in
    (one, fine.agree one.http_reply.at i q p one.http_reply.there there (one.http_reply.client_is ∙ is.0) places.0 places.1)

-- ---- an arrival

module _ (names : List (List ℕ)) (w : World) (a : Arrived) (comes : IsListedArrival names w a) (fine : Fine names w) where
  abbrev c : Contents
  c = w.contents

  same_leads : (http_reply : HttpReply) → IsDecidedFine names c.facts c.marks w.cards w.machines w.packets (record { arrival = a; http_reply = http_reply }) → Leads names w c (record { arrival = a; http_reply = http_reply })
  same_leads http_reply new = record {
    sound = fine.sound;
    above = fine.above;
    marks = fine.marks;
    words = fine.words;
    later = later_same c.facts;
    grow = λ m. omega arith;
    kept = fine.kept;
    new = new;
  }

  gone_leads : Leads names w c (record { arrival = a; http_reply = http_reply_of (reply.NumberReleased (mark_of c.marks a.client)) })
  gone_leads = same_leads (http_reply_of (reply.NumberReleased (mark_of c.marks a.client))) (λ listed.
      let p = comes.packet listed in
      record {
        http_reply = record {
          packet = p.0;
          at = p.1;
          there = p.2;
          client_is = ap (λ (b : Arrived). b.client) p.3;
          number_is = ap (λ (b : Arrived). b.number) p.3;
          reply = reply.NumberReleased (mark_of c.marks a.client);
          is = omega (arith, fine.marks a.client);
          text = refl;
          fits = gone_fits c.facts c.marks p.0.machine p.0.call (mark_of c.marks a.client);
          fresh = λ pending. gone_fresh w.cards p.0.call (mark_of c.marks a.client);
        };
        call = ap (λ (b : Arrived). b.request) p.3;
      })

  -- If a reply is kept under the number of `a`, the contents don't change. The kept reply of a
  -- machine belongs to the packet of `a`.
  again_leads : (e : Entry) → entry_of c.kept a.client a.number ≡ Some e → Leads names w c (record { arrival = a; http_reply = http_reply_by a.ask e })
  again_leads e some = same_leads (http_reply_by a.ask e) (λ listed.
      let p = comes.packet listed in
      let is = entry_is c.kept a.client a.number e some in
      let found = entry_for names w fine p.0 p.1 e (ap (λ (b : Arrived). is_name_of names b.client) p.3 ∙ listed) p.2 (subst (λ (b : Arrived). entry_of c.kept b.client b.number ≡ Some e) (sym p.3) some) in
      let one = found.0 in
      let q = one.http_reply.packet in
      let call : q.call ≡ p.0.call = found.1 in
      let ask : e.ask ≡ a.ask = one.ask ∙ ap ask_of call ∙ ap (λ (b : Arrived). b.ask) p.3 in
      let same : http_reply_by a.ask e ≡ record { status = e.status; body = e.body } =
      cond-true (bytes_eq e.ask a.ask) (record { status = e.status; body = e.body }) reused (ap (λ x. bytes_eq x a.ask) ask ∙ name_same a.ask) in
      record {
        http_reply = record {
          packet = q;
          at = one.http_reply.at;
          there = one.http_reply.there;
          client_is = one.http_reply.client_is ∙ is.0;
          number_is = one.http_reply.number_is ∙ is.1;
          reply = one.http_reply.reply;
          is = one.http_reply.is;
          text = one.http_reply.text ∙ sym same;
          fits = one.http_reply.fits;
          fresh = one.http_reply.fresh;
        };
        call = call ∙ ap (λ (b : Arrived). b.request) p.3;
      })

  new_answered : (p : Packet) (i : ℕ) → slice_get w.packets i ≡ Some p → arrival_of p ≡ a
      → IsAnswered (facts_by c.facts a.client a.request) (marks_by c.marks a.client a.number a.request) w.cards w.machines w.packets a.client a.number (http_reply_of (reply_by c.facts c.marks a.client a.number a.request))
  new_answered p i there same =
      let f = c.facts in
      let g = facts_by f a.client a.request in
      let now = marks_by c.marks a.client a.number a.request in
      let r = reply_by f c.marks a.client a.number a.request in
      let client : p.machine ≡ a.client = ap (λ (b : Arrived). b.client) same in
      let call : p.call ≡ a.request = ap (λ (b : Arrived). b.request) same in
      record {
        packet = p;
        at = i;
        there = there;
        client_is = client;
        number_is = ap (λ (b : Arrived). b.number) same;
        reply = r;
        is = first_reply f c.marks a.client a.number a.request fine.sound comes.ranged fine.marks;
        text = refl;
        fits = subst (λ m. Fits g now m p.call r) (sym client) (subst (λ k. Fits g now a.client k r) (sym call) (first_fits f c.marks a.client a.number a.request fine.sound comes.name comes.ranged));
        fresh = λ pending. subst (λ k. Fresh w.cards k r) (sym call) (first_fresh f c.marks w.cards a.client a.number a.request fine.sound fine.cards);
      }

  new_leads : Leads names w (contents_with c a) (record { arrival = a; http_reply = http_reply_of (reply_to c.facts c.marks a) })
  unfolding new_answered
  new_leads =
      let f = c.facts in
      let g = facts_by f a.client a.request in
      let now = marks_by c.marks a.client a.number a.request in
      let later = first_later f a.client a.request fine.sound in
      let grow = marks_grow c.marks a in
      record {
        sound = first_sound f a.client a.request fine.sound comes.name comes.ranged;
        above = with_above c a;
        marks = λ m. first_marks c.marks a.client a.number a.request m comes.ranged fine.marks;
        words = first_words f w.cards a.client a.request comes.done fine.words;
        later = later;
        grow = grow;
        kept = kept_with c a (IsKeptFine names g now w.cards w.machines w.packets)
            (All-weaker (IsKeptFine names f c.marks w.cards w.machines w.packets) (IsKeptFine names g now w.cards w.machines w.packets) (entry_later names f g c.marks now w.cards w.machines w.packets later grow) c.kept fine.kept)
            (λ listed. let p = comes.packet listed in record { http_reply = new_answered p.0 p.1 p.2 p.3; ask = sym (ap (λ (b : Arrived). b.ask) p.3) });
        new = λ listed. let p = comes.packet listed in record { http_reply = new_answered p.0 p.1 p.2 p.3; call = ap (λ (b : Arrived). b.request) p.3 };
      }

  pub decides_fine : Fine names (decides w a)
  decides_fine =
      decided_by c a (λ d http_reply. Fine names (record w { contents = d; decided = w.decided ++ record { arrival = a; http_reply = http_reply } ∷ [] })) fine.above
      (λ released. leads_fine names w c (record { arrival = a; http_reply = http_reply_of (reply.NumberReleased (mark_of c.marks a.client)) }) gone_leads fine)
      (λ e not_released some. leads_fine names w c (record { arrival = a; http_reply = http_reply_by a.ask e }) (again_leads e some) fine)
      (λ not_released none. leads_fine names w (contents_with c a) (record { arrival = a; http_reply = http_reply_of (reply_to c.facts c.marks a) }) new_leads fine)
