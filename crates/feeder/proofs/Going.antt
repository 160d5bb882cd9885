-- An action of one machine keeps `Fine` true and leaves the network and the server unchanged.
use Rattle.std.proofs.Common.{◌≡◌, ◌≤◌, ◌==◌, ℕ, true, false, List, All, Some, refl, sym, ap, ◌∙◌, subst, inl, inr, arith}
use Rattle.std.specs.Prelude.{bytes_eq, slice_get}
use Rattle.std.specs.List.{list_any}
use Rattle.std.proofs.lemmas.Bool.{cases_Bool, cond-true, cond-false}
use Rattle.std.proofs.lemmas.List.Elements.{All-weaker}
use Rattle.std.proofs.lemmas.Option.{get_or_from_slice_get, same_Some, slice_get_within}
use Rattle.std.proofs.lemmas.Slice.Eq.{bytes_eq-Decides}
use Rattle.job_facts.specs.declared.reply.Reply.{Reply}
use Rattle.job_facts.specs.declared.request.Call.{Call}
use Rattle.job_facts.specs.declared.request.Call.TheVariants.{Job}
use Rattle.job_facts.specs.declared.request.Request.TheVariants as request
use Rattle.job_facts.specs.Facts.{Facts}
use Rattle.job_facts.specs.Contents.{Mark}
use Rattle.arrivals.specs.HttpReplies.{HttpReply}
use Rattle.feeder.specs.declared.feeder.Stand.TheVariants.{Asks}
use Rattle.feeder.specs.World.{Machine, Packet, World, at_name}
use Rattle.feeder.specs.ShopFloor.{IsCountedGood}
use Rattle.feeder.proofs.Fine.{Cards, Machines, Fine, Fits, Fresh, HasDone, Holds, IsFineCard, IsFineMachine, IsFinePacket, IsDecidedFine, IsKeptFine, IsSent, IsAnswered, got}

-- A property of all elements of a list is true of the element at position `i`.
pub all_at : {X : Type 0} (P : X → Type 0) (xs : List X) (i : ℕ) (x : X) → All P xs → slice_get xs i ≡ Some x → P x
all_at P xs i x all is = subst P (get_or_from_slice_get xs i x x is) (all i x (slice_get_within xs i x is))

pub same_name : (m n : List ℕ) → bytes_eq m n ≡ true → m ≡ n
same_name m n is = (bytes_eq-Decides m n).0 is

pub name_same : (n : List ℕ) → bytes_eq n n ≡ true
name_same n = (bytes_eq-Decides n n).1 refl

pub at_same : {T : Type 0} (name : List ℕ) (v : T) (f : List ℕ → T) (n : List ℕ) → bytes_eq n name ≡ true → at_name name v f n ≡ v
at_same name v f n is = cond-true (bytes_eq n name) v (f n) is

pub at_other : {T : Type 0} (name : List ℕ) (v : T) (f : List ℕ → T) (n : List ℕ) → bytes_eq n name ≡ false → at_name name v f n ≡ f n
at_other name v f n is = cond-false (bytes_eq n name) v (f n) is

-- `HasDone` stays true when cards receive more commands.
pub done_more : (f : Facts) (cards now : Cards) (call : Call) → ((serial : ℕ) → got cards serial ≤ got now serial) → HasDone f cards call → HasDone f now call
done_more f cards now (Job (request.Answer s k sw)) more done = (done.0, done.1, omega (arith, done.2, more done.0.blank))
done_more f cards now _ more done = tt

-- the conditions under which `Fine` stays true when machine `name` becomes `y`, with the boot
-- numbers `boots` and the cards `cards`
pub record Goes (names : List (List ℕ)) (w : World) (name : List ℕ) (y : Machine) (boots : List ℕ → List ℕ) (cards : Cards) : Type 0 where
  pub ok : IsFineMachine names w.contents.facts cards (boots name) name y
  pub boots_other : (m : List ℕ) → bytes_eq m name ≡ false → boots m ≡ w.boots m
  pub sent : (x : Machine) (p : Packet) → w.machines name ≡ Some x → IsSent (w.boots name) x.feeder p → IsSent (boots name) y.feeder p
  -- if the pending request of `y` was sent before, it was already pending before
  pub own : (x : Machine) (p : Packet) → w.machines name ≡ Some x → IsSent (w.boots name) x.feeder p → y.feeder.boot ≡ p.boot → y.feeder.place ≡ p.place → y.feeder.stand ≡ Asks p.call
      → (x.feeder.boot ≡ p.boot) × (x.feeder.place ≡ p.place) × (x.feeder.stand ≡ Asks p.call) × ((r : Reply) → Fresh w.cards p.call r → Fresh cards p.call r)
  pub more : (serial : ℕ) → got w.cards serial ≤ got cards serial
  pub cards_ok : (serial : ℕ) → IsFineCard w.contents.facts serial (cards serial).received
  pub put_out : (serial : ℕ) → (cards serial).is_good ≡ true → IsCountedGood w.contents.facts serial
  -- the other machines and their cards are not affected
  pub holds_other : (m : List ℕ) (x : Machine) → bytes_eq m name ≡ false → Holds w.contents.facts w.cards m x.card x.feeder.stand → Holds w.contents.facts cards m x.card x.feeder.stand
  pub fresh_other : (p : Packet) (r : Reply) → bytes_eq p.machine name ≡ false → Fits w.contents.facts w.contents.marks p.machine p.call r → Fresh w.cards p.call r → Fresh cards p.call r

module _ (names : List (List ℕ)) (w : World) (name : List ℕ) (y : Machine) (boots : List ℕ → List ℕ) (cards : Cards)
    (goes : Goes names w name y boots cards) (fine : Fine names w) where
  abbrev f : Facts
  f = w.contents.facts

  abbrev marks : List Mark
  marks = w.contents.marks

  abbrev now : Machines
  now = at_name name (Some y) w.machines

  machine_at : (m : List ℕ) (z : Machine) → now m ≡ Some z → IsFineMachine names f cards (boots m) m z
  machine_at m z is = elim (cases_Bool (bytes_eq m name)) [
    | inl hit ↦
        let same : m ≡ name = same_name m name hit in
        let one : y ≡ z = same_Some y z (sym (at_same name (Some y) w.machines m hit) ∙ is) in
        subst (λ m. IsFineMachine names f cards (boots m) m z) (sym same) (subst (IsFineMachine names f cards (boots name) name) one goes.ok)
    | inr miss ↦
        let was = fine.machines m z (sym (at_other name (Some y) w.machines m miss) ∙ is) in
        record {
          feeder = was.feeder;
          name_is = was.name_is;
          listed = was.listed;
          boot = ap (λ bs. list_any (λ b. b == z.feeder.boot) bs) (goes.boots_other m miss) ∙ was.boot;
          holds = goes.holds_other m z miss was.holds;
        }
  ]

  packet_at : (p : Packet) → IsFinePacket f w.cards w.machines w.boots p → IsFinePacket f cards now boots p
  packet_at p is = elim (cases_Bool (bytes_eq p.machine name)) [
    | inl hit ↦
        let same : p.machine ≡ name = same_name p.machine name hit in
        let sent = goes.sent is.sender p (ap w.machines (sym same) ∙ is.there) (subst (λ m. IsSent (w.boots m) is.sender.feeder p) same is.sent) in
        record {
          sender = y;
          there = at_same name (Some y) w.machines p.machine hit;
          sent = subst (λ m. IsSent (boots m) y.feeder p) (sym same) sent;
          done = done_more f w.cards cards p.call goes.more is.done;
        }
    | inr miss ↦ record {
      sender = is.sender;
      there = at_other name (Some y) w.machines p.machine miss ∙ is.there;
      sent = subst (λ bs. IsSent bs is.sender.feeder p) (sym (goes.boots_other p.machine miss)) is.sent;
      done = done_more f w.cards cards p.call goes.more is.done;
    }
  ]

  answered_at : (client : List ℕ) (number : ℕ) (http_reply : HttpReply) → IsAnswered f marks w.cards w.machines w.packets client number http_reply → IsAnswered f marks cards now w.packets client number http_reply
  answered_at client number http_reply is =
      let p = is.packet in
      let sent = all_at (IsFinePacket f w.cards w.machines w.boots) w.packets is.at p fine.packets is.there in
      record {
        packet = p;
        at = is.at;
        there = is.there;
        client_is = is.client_is;
        number_is = is.number_is;
        reply = is.reply;
        is = is.is;
        text = is.text;
        fits = is.fits;
        fresh = λ pending. elim (cases_Bool (bytes_eq p.machine name)) [
          | inl hit ↦
              let same : p.machine ≡ name = same_name p.machine name hit in
              let one : y ≡ pending.sender = same_Some y pending.sender (sym (at_same name (Some y) w.machines p.machine hit) ∙ pending.there) in
              let was = goes.own sent.sender p (ap w.machines (sym same) ∙ sent.there) (subst (λ m. IsSent (w.boots m) sent.sender.feeder p) same sent.sent)
              (ap (λ (z : Machine). z.feeder.boot) one ∙ pending.boot) (ap (λ (z : Machine). z.feeder.place) one ∙ pending.place) (ap (λ (z : Machine). z.feeder.stand) one ∙ pending.stand) in
              was.3 is.reply (is.fresh (record { sender = sent.sender; there = sent.there; boot = was.0; place = was.1; stand = was.2 }))
          | inr miss ↦
              goes.fresh_other p is.reply miss is.fits
              (is.fresh (record { sender = pending.sender; there = sym (at_other name (Some y) w.machines p.machine miss) ∙ pending.there; boot = pending.boot; place = pending.place; stand = pending.stand }))
        ];
      }

  pub goes_fine : Fine names (record w { machines = at_name name (Some y) w.machines; boots = boots; cards = cards })
  unfolding answered_at
  goes_fine = record {
    sound = fine.sound;
    above = fine.above;
    marks = fine.marks;
    words = λ s x is. omega (arith, fine.words s x is, goes.more x.blank);
    cards = goes.cards_ok;
    put_out = goes.put_out;
    machines = machine_at;
    packets = All-weaker (IsFinePacket f w.cards w.machines w.boots) (IsFinePacket f cards now boots) packet_at w.packets fine.packets;
    agree = fine.agree;
    kept =
        All-weaker (IsKeptFine names f marks w.cards w.machines w.packets) (IsKeptFine names f marks cards now w.packets)
        (λ e is listed. let one = is listed in record { http_reply = answered_at e.client e.number (record { status = e.status; body = e.body }) one.http_reply; ask = one.ask })
        w.contents.kept fine.kept;
    decided =
        All-weaker (IsDecidedFine names f marks w.cards w.machines w.packets) (IsDecidedFine names f marks cards now w.packets)
        (λ g is listed. let one = is listed in record { http_reply = answered_at g.arrival.client g.arrival.number g.http_reply one.http_reply; call = one.call })
        w.decided fine.decided;
    given = fine.given;
  }
