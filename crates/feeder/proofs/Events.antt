-- Every event keeps `Fine` true.
use Rattle.std.proofs.Common.{◌≡◌, ◌≤◌, ◌<◌, ◌^◌, ◌⊎◌, ◌+◌, ◌==◌, ◌||◌, ℕ, zero, suc, true, false, List, [], ◌∷◌, ◌++◌, length, take, Option, Some, None, Result, Ok, Err, refl, sym, ap, ◌∙◌, subst, inl, inr, arith}
use Rattle.std.specs.Prelude.{nat_lt, slice_get, ⊤}
use Rattle.std.specs.List.{list_any}
use Rattle.std.proofs.lemmas.Bool.{cond_both, eqb-true, eq-eqb, false≢true, ltb-false, or_left, or_parts, or_right}
use Rattle.std.proofs.lemmas.List.{length-take-le}
use Rattle.std.proofs.lemmas.List.Elements.{All-nil, All-push, All-weaker}
use Rattle.std.proofs.lemmas.Option.{none-some, same_Some, slice_get_within}
use Rattle.job_facts.specs.declared.reply.Reply.{Reply}
use Rattle.job_facts.specs.declared.request.Call.{Call}
use Rattle.job_facts.specs.declared.request.Call.TheVariants.{Job, Release}
use Rattle.job_facts.specs.declared.request.Request.TheVariants as request
use Rattle.job_facts.specs.Facts.{Facts, Session}
use Rattle.job_facts.specs.Sound.{IsName}
use Rattle.job_facts.specs.Contents.{Mark}
use Rattle.job_facts.proofs.Lists.{slice_get-append_left}
use Rattle.job_facts.proofs.SoundFacts.{sound_nothing}
use Rattle.arrivals.specs.HttpReplies.{HttpReply}
use Rattle.arrivals.specs.Meaning.{Arrived, http_reply_on}
use Rattle.feeder.specs.Reading.{ReadsBack}
use Rattle.feeder.specs.declared.feeder.InsertFault.{InsertFault}
use Rattle.feeder.specs.declared.feeder.InsertFault.TheVariants.{Exhausted}
use Rattle.feeder.specs.declared.feeder.Stand.{Stand}
use Rattle.feeder.specs.declared.feeder.Stand.TheVariants.{Idle, Asks, HasCommand, Stale}
use Rattle.feeder.specs.declared.world.Event.{Event}
use Rattle.feeder.specs.declared.world.Event.TheVariants as event
use Rattle.feeder.specs.declared.world.Stop.{Stop}
use Rattle.feeder.specs.declared.world.Stop.TheVariants.{No, Before, After}
use Rattle.feeder.specs.Table.{Done, after_card, FeederState, IsAsked, IsStand, Makes, asked, asked_by, done, heard_by, inserted_by, moved, no_row, number_at, reply_row, started}
use Rattle.feeder.specs.World.{Answered, Machine, Packet, World, acts, arrival_of, arrived, arrived_as, arrives, at_first, at_name, decides, delivered, happens, heard, inserted, is_name_of, is_of_machines, is_used, powered, put_in, reached, sent, sent_by, worded, worded_in}
use Rattle.feeder.specs.ShopFloor.{IsEvent, IsRangedCall, sequence_of}
use Rattle.feeder.proofs.Fine.{Cards, Machines, Fine, Fits, Fresh, HasDone, Holds, IsDecidedFine, IsFinePacket, IsKeptFine, IsPending, IsSent, IsAnswered}
use Rattle.feeder.proofs.Going.{all_at, at_same, at_other, goes_fine, name_same}
use Rattle.feeder.proofs.Rows.{moved_own, moved_sent}
use Rattle.feeder.proofs.Calls.{card_goes, no_row_goes, reply_goes}
use Rattle.feeder.proofs.Arriving.{IsListedArrival, decides_fine, number_apart}

-- ---- the start

pub start_fine : (names : List (List ℕ)) → Fine names at_first
start_fine names = record {
  sound = sound_nothing;
  above = All-nil (λ e. _);
  marks = λ m. omega arith;
  words = λ s x is. absurd (none_numbered s x is);
  cards = λ serial. inl refl;
  put_out = λ serial good. absurd (false≢true good);
  machines = λ name x is. absurd (none-some x is);
  packets = All-nil (IsFinePacket at_first.contents.facts at_first.cards at_first.machines at_first.boots);
  agree = λ i j p q at_i at_j machine boot place. absurd (none_at i p at_i);
  kept = All-nil (IsKeptFine names at_first.contents.facts at_first.contents.marks at_first.cards at_first.machines at_first.packets);
  decided = All-nil (IsDecidedFine names at_first.contents.facts at_first.contents.marks at_first.cards at_first.machines at_first.packets);
  given = All-nil (λ (a : Answered). (i : ℕ) × (slice_get at_first.decided i ≡ Some a));
}
  where
    none_at : {X : Type 0} (i : ℕ) (x : X) → slice_get [] i ≡ Some x → ⊥
    none_at zero x is = none-some x is
    none_at (suc i) x is = none-some x is

    none_numbered : (s : ℕ) (x : Session) → Rattle.job_facts.specs.States.session_numbered [] s ≡ Some x → ⊥
    none_numbered zero x is = none-some x is
    none_numbered (suc i) x is = none_at i x is

-- ---- the insertion of a card

insert_fine : (names : List (List ℕ)) (w : World) (name b : List ℕ) (serial : ℕ) (o : Option Machine) → w.machines name ≡ o → IsName b → serial < 10 ^ 18
    → Fine names w → Fine names (inserted w name b serial o)
insert_fine names w name b serial None is name_b small fine = fine
insert_fine names w name b serial (Some x) is name_b small fine = at x.feeder.stand refl
  where
    at : (stand : Stand) → x.feeder.stand ≡ stand → Fine names (put_in w name serial (inserted_by x.feeder stand b serial))
    at (Asks call) stand = fine
    at (HasCommand s k) stand = fine
    at Stale stand = fine
    at Idle stand =
        cond_both {A = FeederState × Result (Unit {0}) InsertFault} (nat_lt 8000000 x.feeder.place) (x.feeder, Err Exhausted) (moved x.feeder (Makes (Job (request.Open b serial))), Ok tt)
        (λ r. Fine names (put_in w name serial r)) (λ full. fine)
        (λ room.
        let call : Call = Job (request.Open b serial) in
        let was = fine.machines name x is in
        let few = ltb-false 8000000 x.feeder.place room in
        let one : (z : Machine) → w.machines name ≡ Some z → x ≡ z = λ z there. same_Some x z (sym is ∙ there) in
        goes_fine names w name (record { feeder = moved x.feeder (Makes call); card = Some serial }) w.boots w.cards
        (record {
          ok = record {
            feeder = record {
              machine = was.feeder.machine;
              boot_least = was.feeder.boot_least;
              boot_most = was.feeder.boot_most;
              place_least = omega arith;
              place_most = omega (arith, few);
              stand = (name_b, small, omega (arith, few));
            };
            name_is = was.name_is;
            listed = was.listed;
            boot = was.boot;
            holds = refl;
          };
          boots_other = λ m other. refl;
          sent = λ z p there sent. moved_sent (w.boots name) x.feeder (Makes call) p tt (subst (λ (z : Machine). IsSent (w.boots name) z.feeder p) (sym (one z there)) sent);
          own = λ z p there sent boot place stand.
              let own = moved_own (w.boots name) x.feeder (Makes call) p tt (subst (λ (z : Machine). IsSent (w.boots name) z.feeder p) (sym (one z there)) sent) boot place stand in
              (ap (λ (z : Machine). z.feeder.boot) (sym (one z there)) ∙ own.0, ap (λ (z : Machine). z.feeder.place) (sym (one z there)) ∙ own.1, ap (λ (z : Machine). z.feeder.stand) (sym (one z there)) ∙ own.2, λ r fresh. fresh);
          more = λ s. omega arith;
          cards_ok = fine.cards;
          put_out = fine.put_out;
          holds_other = λ m z other holds. holds;
          fresh_other = λ p r other fits fresh. fresh;
        })
        fine)

-- ---- sending the pending request

same_call : (a b : Call) → Asks a ≡ Asks b → a ≡ b
same_call a b e = cc

asked_done : (f : Facts) (cards : Cards) (name : List ℕ) (card : Option ℕ) (call : Call) → Holds f cards name card (Asks call) → HasDone f cards call
asked_done f cards name card (Job (request.Answer s k sw)) has =
    let long : length (cards has.session.blank).received ≡ length (take (k + 1) (sequence_of f has.session)) = ap (λ (xs : List (List ℕ)). length xs) has.received in
    let within = has.within in
    (has.session, has.there, omega (arith, long, length-take-le (k + 1) (sequence_of f has.session) (omega (arith, within))))
asked_done f cards name card _ has = tt

-- An element of a list with `y` appended is an element of the list, or `y`.
pub at_push : {X : Type 0} (xs : List X) (y : X) (i : ℕ) (z : X) → slice_get (xs ++ y ∷ []) i ≡ Some z → (slice_get xs i ≡ Some z) ⊎ (y ≡ z)
at_push [] y zero z is = inr (same_Some y z is)
at_push [] y (suc i) z is = absurd (none_at i z is)
  where
    none_at : {X : Type 0} (i : ℕ) (x : X) → slice_get [] i ≡ Some x → ⊥
    none_at zero x is = none-some x is
    none_at (suc i) x is = none-some x is
at_push (x ∷ xs) y zero z is = inl is
at_push (x ∷ xs) y (suc i) z is = at_push xs y i z is

answered_more : (f : Facts) (marks : List Mark) (cards : Cards) (machines : Machines) (packets : List Packet) (p : Packet) (client : List ℕ) (number : ℕ) (http_reply : HttpReply)
    → IsAnswered f marks cards machines packets client number http_reply → IsAnswered f marks cards machines (packets ++ p ∷ []) client number http_reply
answered_more f marks cards machines packets p client number http_reply is = record {
  packet = is.packet;
  at = is.at;
  there = slice_get-append_left packets (p ∷ []) is.at (slice_get_within packets is.at is.packet is.there) ∙ is.there;
  client_is = is.client_is;
  number_is = is.number_is;
  reply = is.reply;
  is = is.is;
  text = is.text;
  fits = is.fits;
  fresh = is.fresh;
}

sent_fine : (names : List (List ℕ)) (w : World) (name : List ℕ) (x : Machine) (call : Call) → w.machines name ≡ Some x → x.feeder.stand ≡ Asks call → Fine names w
    → Fine names (sent_by w x.feeder (Some (number_at x.feeder.boot x.feeder.place, call)))
unfolding answered_more
sent_fine names w name x call is stand fine =
    let f = w.contents.facts in
    let was = fine.machines name x is in
    let p : Packet = record { machine = x.feeder.machine; boot = x.feeder.boot; place = x.feeder.place; call = call } in
    let fine_p : IsFinePacket f w.cards w.machines w.boots p = record {
      sender = x;
      there = ap w.machines was.name_is ∙ is;
      sent = record {
        boot = ap (λ m. list_any (λ b. b == x.feeder.boot) (w.boots m)) was.name_is ∙ was.boot;
        boot_least = was.feeder.boot_least;
        boot_most = was.feeder.boot_most;
        least = was.feeder.place_least;
        most = was.feeder.place_most;
        asked = subst (IsStand x.feeder.boot x.feeder.place) stand was.feeder.stand;
        late = λ boot. omega arith;
        mine = λ boot place other asks. same_call call other (sym stand ∙ asks);
      };
      done = asked_done f w.cards name x.card call (subst (Holds f w.cards name x.card) stand was.holds);
    } in
    let old : (i : ℕ) (q : Packet) → slice_get w.packets i ≡ Some q → q.machine ≡ p.machine → q.boot ≡ p.boot → q.place ≡ p.place → q.call ≡ call = λ i q at machine boot place.
    let fine_q = all_at (IsFinePacket f w.cards w.machines w.boots) w.packets i q fine.packets at in
    let one : fine_q.sender ≡ x = same_Some fine_q.sender x (sym fine_q.there ∙ ap w.machines (machine ∙ was.name_is) ∙ is) in
    fine_q.sent.mine (boot ∙ ap (λ (z : Machine). z.feeder.boot) (sym one)) (place ∙ ap (λ (z : Machine). z.feeder.place) (sym one)) call (ap (λ (z : Machine). z.feeder.stand) one ∙ stand) in
    record {
      sound = fine.sound;
      above = fine.above;
      marks = fine.marks;
      words = fine.words;
      cards = fine.cards;
      put_out = fine.put_out;
      machines = fine.machines;
      packets = All-push (IsFinePacket f w.cards w.machines w.boots) w.packets p fine.packets fine_p;
      agree = λ i j q r at_i at_j machine boot place. elim (at_push w.packets p i q at_i) [
        | inl q_old ↦ elim (at_push w.packets p j r at_j) [
          | inl r_old ↦ fine.agree i j q r q_old r_old machine boot place
          | inr r_new ↦ old i q q_old (machine ∙ ap (λ (z : Packet). z.machine) (sym r_new)) (boot ∙ ap (λ (z : Packet). z.boot) (sym r_new)) (place ∙ ap (λ (z : Packet). z.place) (sym r_new)) ∙ ap (λ (z : Packet). z.call) r_new
        ]
        | inr q_new ↦ elim (at_push w.packets p j r at_j) [
          | inl r_old ↦ sym (old j r r_old (sym machine ∙ ap (λ (z : Packet). z.machine) (sym q_new)) (sym boot ∙ ap (λ (z : Packet). z.boot) (sym q_new)) (sym place ∙ ap (λ (z : Packet). z.place) (sym q_new)) ∙ ap (λ (z : Packet). z.call) q_new)
          | inr r_new ↦ ap (λ (z : Packet). z.call) (sym q_new ∙ r_new)
        ]
      ];
      kept = All-weaker (IsKeptFine names f w.contents.marks w.cards w.machines w.packets) (IsKeptFine names f w.contents.marks w.cards w.machines (w.packets ++ p ∷ []))
          (λ e one listed. let k = one listed in record { http_reply = answered_more f w.contents.marks w.cards w.machines w.packets p e.client e.number (record { status = e.status; body = e.body }) k.http_reply; ask = k.ask }) w.contents.kept fine.kept;
      decided = All-weaker (IsDecidedFine names f w.contents.marks w.cards w.machines w.packets) (IsDecidedFine names f w.contents.marks w.cards w.machines (w.packets ++ p ∷ []))
          (λ g one listed. let k = one listed in record { http_reply = answered_more f w.contents.marks w.cards w.machines w.packets p g.arrival.client g.arrival.number g.http_reply k.http_reply; call = k.call }) w.decided fine.decided;
      given = fine.given;
    }

send_fine : (names : List (List ℕ)) (w : World) (name : List ℕ) (o : Option Machine) → w.machines name ≡ o → Fine names w → Fine names (sent w o)
send_fine names w name None is fine = fine
send_fine names w name (Some x) is fine = at x.feeder.stand refl
  where
    at : (stand : Stand) → x.feeder.stand ≡ stand → Fine names (sent_by w x.feeder (asked_by x.feeder stand))
    at (Asks call) stand = sent_fine names w name x call is stand fine
    at (HasCommand s k) stand = fine
    at Stale stand = fine
    at Idle stand = fine

-- ---- an arrival

asked_ranged : (boot place : ℕ) (call : Call) → 1 ≤ boot → boot ≤ 9999999999 → IsAsked boot place call → IsRangedCall call
asked_ranged boot place (Release upto) least most asked = (omega (arith, asked.1), omega (arith, asked.1))
asked_ranged boot place (Job request.Reset) least most asked = tt
asked_ranged boot place (Job (request.Open b blank)) least most asked = (asked.0, asked.1)
asked_ranged boot place (Job (request.Answer s k sw)) least most asked = asked
asked_ranged boot place _ least most asked = absurd asked

pub last_at : {X : Type 0} (xs : List X) (y : X) → slice_get (xs ++ y ∷ []) (length xs) ≡ Some y
last_at [] y = refl
last_at (x ∷ xs) y = last_at xs y

arrives_fine : (names : List (List ℕ)) (w : World) (a : Arrived) (stop : Stop) → IsListedArrival names w a → Fine names w → Fine names (arrives w a stop)
arrives_fine names w a Before comes fine = fine
arrives_fine names w a After comes fine = decides_fine names w a comes fine
arrives_fine names w a No comes fine =
    let is = decides_fine names w a comes fine in
    let g : Answered = record { arrival = a; http_reply = http_reply_on w.contents a } in
    record {
      sound = is.sound;
      above = is.above;
      marks = is.marks;
      words = is.words;
      cards = is.cards;
      put_out = is.put_out;
      machines = is.machines;
      packets = is.packets;
      agree = is.agree;
      kept = is.kept;
      decided = is.decided;
      given = All-push (λ (b : Answered). (i : ℕ) × (slice_get (decides w a).decided i ≡ Some b)) w.replies g is.given (length w.decided, last_at w.decided g);
    }

arrive_fine : (names : List (List ℕ)) (w : World) (i : ℕ) (stop : Stop) (o : Option Packet) → slice_get w.packets i ≡ o → Fine names w → Fine names (arrived w stop o)
arrive_fine names w i stop None is fine = fine
arrive_fine names w i stop (Some p) is fine =
    let one = all_at (IsFinePacket w.contents.facts w.cards w.machines w.boots) w.packets i p fine.packets is in
    let sender = fine.machines p.machine one.sender one.there in
    arrives_fine names w (arrival_of p) stop
    (record {
      name = subst IsName sender.name_is sender.feeder.machine;
      ranged = asked_ranged p.boot p.place p.call one.sent.boot_least one.sent.boot_most one.sent.asked;
      done = one.done;
      packet = λ listed. (p, i, is, refl);
    })
    fine

office_done : (f : Facts) (cards : Cards) (call : Call) → is_of_machines call ≡ false → HasDone f cards call
office_done f cards (Job (request.Answer s k sw)) un = absurd (false≢true (sym un))
office_done f cards _ un = tt

-- ---- the delivery of a reply

deliver_fine : (names : List (List ℕ)) (reads : HttpReply → Option Reply) (w : World) (j : ℕ) (o : Option Answered) → ReadsBack reads → slice_get w.replies j ≡ o → Fine names w → Fine names (delivered reads w o)
deliver_fine names reads w j None back is fine = fine
deliver_fine names reads w j (Some g) back is fine = machine_at (w.machines g.arrival.client) refl
  where
    name : List ℕ
    name = g.arrival.client

    machine_at : (o : Option Machine) → w.machines g.arrival.client ≡ o → Fine names (reached w g (reads g.http_reply) o)
    machine_at None none = fine
    machine_at (Some x) there =
        let f = w.contents.facts in
        let was = fine.machines g.arrival.client x there in
        let given = all_at (λ (a : Answered). (i : ℕ) × (slice_get w.decided i ≡ Some a)) w.replies j g fine.given is in
        let one = all_at (IsDecidedFine names f w.contents.marks w.cards w.machines w.packets) w.decided given.0 g fine.decided given.1 was.listed in
        let http_reply = one.http_reply in
        let r = http_reply.reply in
        let read : reads g.http_reply ≡ Some r = ap reads (sym http_reply.text) ∙ back r http_reply.is in
        let p = http_reply.packet in
        let sent = all_at (IsFinePacket f w.cards w.machines w.boots) w.packets http_reply.at p fine.packets http_reply.there in
        let same_x : sent.sender ≡ x = same_Some sent.sender x (sym sent.there ∙ ap w.machines http_reply.client_is ∙ there) in
        let Goal : Done → Type 0 = λ d. Fine names (acts w g.arrival.client x.card d) in
        let quiet : Goal (done x.feeder no_row) = goes_fine names w g.arrival.client (record { feeder = x.feeder; card = x.card }) w.boots w.cards (no_row_goes names w g.arrival.client x there fine) fine in
        let by_stand : (stand : Stand) → x.feeder.stand ≡ stand → Goal (heard_by x.feeder (asked_by x.feeder stand) g.arrival.number r) = λ stand at.
        elim stand as (λ stand. x.feeder.stand ≡ stand → Goal (heard_by x.feeder (asked_by x.feeder stand) g.arrival.number r)) [
          | Idle ↦ λ at. quiet
          | HasCommand s k ↦ λ at. quiet
          | Stale ↦ λ at. quiet
          | Asks call ↦ λ at. cond_both {A = Done} (g.arrival.number == number_at x.feeder.boot x.feeder.place) (done x.feeder (reply_row call r)) (done x.feeder no_row) Goal
              (λ hit.
              let number : number_at p.boot p.place ≡ number_at x.feeder.boot x.feeder.place = http_reply.number_is ∙ eqb-true g.arrival.number (number_at x.feeder.boot x.feeder.place) hit in
              let places = number_apart p.boot p.place x.feeder.boot x.feeder.place sent.sent.most was.feeder.place_most number in
              let same_call : p.call ≡ call = sent.sent.mine (places.0 ∙ ap (λ (z : Machine). z.feeder.boot) (sym same_x)) (places.1 ∙ ap (λ (z : Machine). z.feeder.place) (sym same_x)) call (ap (λ (z : Machine). z.feeder.stand) same_x ∙ at) in
              let pending : IsPending w.machines p = record {
                sender = sent.sender;
                there = sent.there;
                boot = ap (λ (z : Machine). z.feeder.boot) same_x ∙ sym places.0;
                place = ap (λ (z : Machine). z.feeder.place) same_x ∙ sym places.1;
                stand = ap (λ (z : Machine). z.feeder.stand) same_x ∙ at ∙ ap (λ c. Asks c) (sym same_call);
              } in
              let fits : Fits f w.contents.marks g.arrival.client call r = subst (λ c. Fits f w.contents.marks g.arrival.client c r) same_call (subst (λ m. Fits f w.contents.marks m p.call r) http_reply.client_is http_reply.fits) in
              let fresh : Fresh w.cards call r = subst (λ c. Fresh w.cards c r) same_call (http_reply.fresh pending) in
              goes_fine names w g.arrival.client _ w.boots _ (reply_goes names w g.arrival.client x there fine call r at fits fresh) fine)
              (λ miss. quiet)
        ] at in
        subst (λ o. Fine names (heard w g x o)) (sym read) (by_stand x.feeder.stand refl)

-- ---- a status word of a card

card_fine : (names : List (List ℕ)) (w : World) (name : List ℕ) (sw : ℕ) (o : Option Machine) → w.machines name ≡ o → sw < 2 ^ 16 → Fine names w → Fine names (worded w name sw o)
card_fine names w name sw None is small fine = fine
card_fine names w name sw (Some x) is small fine = at x.card refl
  where
    at : (card : Option ℕ) → x.card ≡ card → Fine names (worded_in w name sw x card)
    at None none = fine
    at (Some serial) some =
        subst (λ c. Fine names (acts w name c (after_card x.feeder sw))) some (goes_fine names w name _ w.boots _ (card_goes names w name x is fine sw small) fine)

-- ---- the start of a machine

power_fine : (names : List (List ℕ)) (w : World) (name : List ℕ) (boot : ℕ) → is_used w name boot ≡ false → IsName name → 1 ≤ boot → boot ≤ 9999999999 → is_name_of names name ≡ true
    → Fine names w → Fine names (powered w name boot)
power_fine names w name boot unused is_name least most listed fine =
    let boots : List ℕ → List ℕ = at_name name (boot ∷ w.boots name) w.boots in
    let here : boots name ≡ boot ∷ w.boots name = at_same name (boot ∷ w.boots name) w.boots name (name_same name) in
    let apart : (x : Machine) (p : Packet) → IsSent (w.boots name) x.feeder p → p.boot ≡ boot → ⊥ = λ x p sent same.
    false≢true (sym unused ∙ ap (λ c. list_any (λ b. b == c) (w.boots name)) (sym same) ∙ sent.boot) in
    goes_fine names w name (record { feeder = started name boot; card = None }) boots w.cards
    (record {
      ok = record {
        feeder = record { machine = is_name; boot_least = least; boot_most = most; place_least = omega arith; place_most = omega arith; stand = (refl, refl) };
        name_is = refl;
        listed = listed;
        boot = ap (λ bs. list_any (λ b. b == boot) bs) here ∙ or_left (boot == boot) (list_any (λ b. b == boot) (w.boots name)) (eq-eqb boot boot refl);
        holds = tt;
      };
      boots_other = λ m other. at_other name (boot ∷ w.boots name) w.boots m other;
      sent = λ x p there sent. record {
        boot = ap (λ bs. list_any (λ b. b == p.boot) bs) here ∙ or_right (boot == p.boot) (list_any (λ b. b == p.boot) (w.boots name)) sent.boot;
        boot_least = sent.boot_least;
        boot_most = sent.boot_most;
        least = sent.least;
        most = sent.most;
        asked = sent.asked;
        late = λ same. absurd (apart x p sent same);
        mine = λ same place call asks. absurd (apart x p sent same);
      };
      own = λ x p there sent at_boot place stand. absurd (apart x p sent (sym at_boot));
      more = λ serial. omega arith;
      cards_ok = fine.cards;
      put_out = fine.put_out;
      holds_other = λ m x other holds. holds;
      fresh_other = λ p r other fits fresh. fresh;
    })
    fine

-- ---- all events

-- if the event starts a machine, the name of the machine is in `names`
abbrev pub IsListed : List (List ℕ) → Event → Type 0
IsListed names (event.Power machine boot) = is_name_of names machine ≡ true
IsListed names _ = ⊤

pub happens_fine : (names : List (List ℕ)) (reads : HttpReply → Option Reply) (w : World) (e : Event) → ReadsBack reads → IsEvent e → IsListed names e
    → Fine names w → Fine names (happens reads names w e)
happens_fine names reads w (event.Insert machine batch blank) back is listed fine = insert_fine names w machine batch blank (w.machines machine) refl is.1 is.2 fine
happens_fine names reads w (event.Send machine) back is listed fine = send_fine names w machine (w.machines machine) refl fine
happens_fine names reads w (event.Arrive packet stop) back is listed fine = arrive_fine names w packet stop (slice_get w.packets packet) refl fine
happens_fine names reads w (event.Deliver j) back is listed fine = deliver_fine names reads w j (slice_get w.replies j) back refl fine
happens_fine names reads w (event.Card machine sw) back is listed fine = card_fine names w machine sw (w.machines machine) refl is.1 fine
happens_fine names reads w (event.Power machine boot) back is listed fine =
    cond_both {A = World} (is_used w machine boot) w (powered w machine boot) (Fine names) (λ used. fine)
    (λ unused. power_fine names w machine boot unused is.0 is.1 is.2 listed fine)
happens_fine names reads w (event.Office arrival stop) back is listed fine =
    cond_both {A = World} (is_name_of names arrival.client || is_of_machines arrival.request) w (arrives w (arrived_as arrival) stop) (Fine names) (λ may. fine)
    (λ may.
    let parts = or_parts (is_name_of names arrival.client) (is_of_machines arrival.request) may in
    arrives_fine names w (arrived_as arrival) stop
    (record { name = is.0; ranged = is.3; done = office_done w.contents.facts w.cards arrival.request parts.1; packet = λ listed. absurd (false≢true (sym parts.0 ∙ listed)) })
    fine)
