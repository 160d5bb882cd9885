-- The invariant of the decided arrivals: the contents are those after these arrivals, each arrival
-- got its reply, a repeat gets the same reply again, and the releases satisfy `ReleasesStand`.
use Rattle.std.proofs.Common.{◌≡◌, ◌⊎◌, ◌||◌, ℕ, zero, suc, true, false, List, [], ◌∷◌, ◌++◌, length, take, All, Option, Some, None, Result, Ok, Err, refl, sym, ap, ◌∙◌, inl, inr, arith}
use Rattle.std.specs.Prelude.{slice_get}
use Rattle.std.proofs.Math.Seq.{take-append_seam}
use Rattle.std.proofs.lemmas.Bool.{cond_both}
use Rattle.std.proofs.lemmas.List.{map-append, take-append-le}
use Rattle.std.proofs.lemmas.List.Elements.{All-nil, All-push, All-weaker}
use Rattle.std.proofs.lemmas.Option.{none-some, same_Some, slice_get_within}
use Rattle.job_facts.specs.declared.reply.Reply.{Reply}
use Rattle.job_facts.specs.Contents.{Contents, Entry, is_above, no_contents}
use Rattle.job_facts.proofs.Lists.{slice_get-append_left}
use Rattle.arrivals.specs.HttpReplies.{HttpReply}
use Rattle.arrivals.specs.Meaning.{Arrived, contents_after, http_reply_on, is_released}
use Rattle.arrivals.specs.Laws.{AreAbove}
use Rattle.arrivals.proofs.MeaningLemmas.{above_after}
use Rattle.arrivals.proofs.MeaningLists.{contents_after-append}
use Rattle.arrivals.proofs.Repeats.{IsKeptFor, own_reply_kept, repeat_gets_reply, reply_still_kept}
use Rattle.feeder.specs.declared.feeder.InsertFault.{InsertFault}
use Rattle.feeder.specs.declared.world.Event.{Event}
use Rattle.feeder.specs.declared.world.Event.TheVariants as event
use Rattle.feeder.specs.declared.world.Stop.{Stop}
use Rattle.feeder.specs.declared.world.Stop.TheVariants.{No, Before, After}
use Rattle.feeder.specs.Table.{FeederState, after_insert, asked}
use Rattle.feeder.specs.World.{Answered, Machine, Packet, World, arrival_of, arrived, arrived_as, arrives, decides, delivered, happens, inserted, is_name_of, is_of_machines, is_used, powered, put_in, reached, run, sent, sent_by, worded, worded_in}
use Rattle.feeder.specs.ShopFloor.{RepeatsGetTheirReply, arrivals_of}
use Rattle.feeder.proofs.Events.{last_at}
use Rattle.feeder.proofs.Releases.{ReleasesStand, decides_stand, none_stand}

pub record Recorded (c : Contents) (decided replies : List Answered) : Type 0 where
  pub above : AreAbove c
  pub meant : c ≡ contents_after no_contents (arrivals_of decided)
  pub http_reply : (i : ℕ) (g : Answered) → slice_get decided i ≡ Some g → g.http_reply ≡ http_reply_on (contents_after no_contents (arrivals_of (take i decided))) g.arrival
  pub acknowledged : All (λ (g : Answered). (i : ℕ) × (slice_get decided i ≡ Some g)) replies
  pub still : All (λ (g : Answered). IsKeptFor c g.arrival g.http_reply) decided
  pub releases : ReleasesStand c decided

none_above : AreAbove no_contents
none_above = All-nil (λ (e : Entry). is_above no_contents.marks e ≡ true)

pub start_recorded : Recorded no_contents [] []
start_recorded = record {
  above = none_above;
  meant = refl;
  http_reply = λ i g is. absurd (none_at i g is);
  acknowledged = All-nil (λ (g : Answered). (i : ℕ) × (slice_get [] i ≡ Some g));
  still = All-nil (λ (g : Answered). IsKeptFor no_contents g.arrival g.http_reply);
  releases = none_stand;
}
  where
    none_at : {X : Type 0} (i : ℕ) (x : X) → slice_get [] i ≡ Some x → ⊥
    none_at zero x is = none-some x is
    none_at (suc i) x is = none-some x is

decides_recorded : (w : World) (a : Arrived) → Recorded w.contents w.decided w.replies → Recorded (decides w a).contents (decides w a).decided w.replies
decides_recorded w a is =
    let g : Answered = record { arrival = a; http_reply = http_reply_on w.contents a } in
    let after : contents_after w.contents (a ∷ []) ≡ contents_after no_contents (arrivals_of (w.decided ++ g ∷ [])) =
    ap (λ c. contents_after c (a ∷ [])) is.meant ∙ sym (contents_after-append no_contents (arrivals_of w.decided) (a ∷ []) none_above)
    ∙ ap (contents_after no_contents) (sym (map-append (λ (b : Answered). b.arrival) w.decided (g ∷ []))) in
    record {
      above = above_after w.contents a is.above;
      meant = after;
      http_reply = λ i h at. elim (at_where w.decided g i h at) [
        | inl old ↦
            let within = slice_get_within w.decided i h old in
            is.http_reply i h old ∙ ap (λ (ds : List Answered). http_reply_on (contents_after no_contents (arrivals_of ds)) h.arrival) (sym (take-append-le i w.decided (g ∷ []) (omega (arith, within))))
        | inr new ↦
            let front : take i (w.decided ++ g ∷ []) ≡ w.decided = ap (λ k. take k (w.decided ++ g ∷ [])) new.1 ∙ take-append_seam w.decided (g ∷ []) in
            ap (λ (b : Answered). b.http_reply) (sym new.0) ∙ ap (λ c. http_reply_on c a) is.meant
            ∙ ap (λ (ds : List Answered). http_reply_on (contents_after no_contents (arrivals_of ds)) a) (sym front)
            ∙ ap (λ (b : Answered). http_reply_on (contents_after no_contents (arrivals_of (take i (w.decided ++ g ∷ [])))) b.arrival) new.0
      ];
      acknowledged = All-weaker (λ (b : Answered). (i : ℕ) × (slice_get w.decided i ≡ Some b)) (λ (b : Answered). (i : ℕ) × (slice_get (w.decided ++ g ∷ []) i ≡ Some b))
          (λ b at. (at.0, slice_get-append_left w.decided (g ∷ []) at.0 (slice_get_within w.decided at.0 b at.1) ∙ at.1)) w.replies is.acknowledged;
      still = All-push (λ (b : Answered). IsKeptFor (contents_after w.contents (a ∷ [])) b.arrival b.http_reply) w.decided g
          (All-weaker (λ (b : Answered). IsKeptFor w.contents b.arrival b.http_reply) (λ (b : Answered). IsKeptFor (contents_after w.contents (a ∷ [])) b.arrival b.http_reply)
          (λ b still. reply_still_kept w.contents a b.arrival b.http_reply is.above still) w.decided is.still)
          (own_reply_kept w.contents a is.above);
      releases = decides_stand w.contents a w.decided is.releases is.above;
    }
  where
    at_where : {X : Type 0} (xs : List X) (y : X) (i : ℕ) (z : X) → slice_get (xs ++ y ∷ []) i ≡ Some z → (slice_get xs i ≡ Some z) ⊎ ((y ≡ z) × (i ≡ length xs))
    at_where [] y zero z is = inr (same_Some y z is, refl)
    at_where [] y (suc i) z is = absurd (none_at i z is)
      where
        none_at : {X : Type 0} (i : ℕ) (x : X) → slice_get [] i ≡ Some x → ⊥
        none_at zero x is = none-some x is
        none_at (suc i) x is = none-some x is
    at_where (x ∷ xs) y zero z is = inl is
    at_where (x ∷ xs) y (suc i) z is = elim (at_where xs y i z is) [ inl old ↦ inl old | inr new ↦ inr (new.0, ap suc new.1) ]

abbrev RecordedIn : World → Type 0
RecordedIn w = Recorded w.contents w.decided w.replies

arrives_recorded : (w : World) (a : Arrived) (stop : Stop) → RecordedIn w → RecordedIn (arrives w a stop)
arrives_recorded w a Before is = is
arrives_recorded w a After is = decides_recorded w a is
arrives_recorded w a No is =
    let now = decides_recorded w a is in
    let g : Answered = record { arrival = a; http_reply = http_reply_on w.contents a } in
    record {
      above = now.above;
      meant = now.meant;
      http_reply = now.http_reply;
      still = now.still;
      releases = now.releases;
      acknowledged = All-push (λ (b : Answered). (i : ℕ) × (slice_get (decides w a).decided i ≡ Some b)) w.replies g now.acknowledged (length w.decided, last_at w.decided g);
    }

-- All events keep the invariant. Only arrivals change the contents or the decided arrivals.
insert_recorded : (w : World) (name b : List ℕ) (serial : ℕ) (o : Option Machine) → RecordedIn w → RecordedIn (inserted w name b serial o)
insert_recorded w name b serial None is = is
insert_recorded w name b serial (Some x) is = at (after_insert x.feeder b serial)
  where
    at : (r : FeederState × Result (Unit {0}) InsertFault) → RecordedIn (put_in w name serial r)
    at (f, Ok u) = is
    at (f, Err why) = is

send_recorded : (w : World) (o : Option Machine) → RecordedIn w → RecordedIn (sent w o)
send_recorded w None is = is
send_recorded w (Some x) is = at (asked x.feeder)
  where
    at : (o : Option (ℕ × _)) → RecordedIn (sent_by w x.feeder o)
    at None = is
    at (Some ask) = is

arrive_recorded : (w : World) (stop : Stop) (o : Option Packet) → RecordedIn w → RecordedIn (arrived w stop o)
arrive_recorded w stop None is = is
arrive_recorded w stop (Some p) is = arrives_recorded w (arrival_of p) stop is

deliver_recorded : (reads : HttpReply → Option Reply) (w : World) (o : Option Answered) → RecordedIn w → RecordedIn (delivered reads w o)
deliver_recorded reads w None is = is
deliver_recorded reads w (Some g) is = at (w.machines g.arrival.client) (reads g.http_reply)
  where
    at : (m : Option Machine) (r : Option Reply) → RecordedIn (reached w g r m)
    at None r = is
    at (Some x) None = is
    at (Some x) (Some r) = is

card_recorded : (w : World) (name : List ℕ) (sw : ℕ) (o : Option Machine) → RecordedIn w → RecordedIn (worded w name sw o)
card_recorded w name sw None is = is
card_recorded w name sw (Some x) is = at x.card
  where
    at : (card : Option ℕ) → RecordedIn (worded_in w name sw x card)
    at None = is
    at (Some serial) = is

pub happens_recorded : (reads : HttpReply → Option Reply) (names : List (List ℕ)) (w : World) (e : Event) → RecordedIn w → RecordedIn (happens reads names w e)
happens_recorded reads names w (event.Insert machine batch blank) is = insert_recorded w machine batch blank (w.machines machine) is
happens_recorded reads names w (event.Send machine) is = send_recorded w (w.machines machine) is
happens_recorded reads names w (event.Arrive packet stop) is = arrive_recorded w stop (slice_get w.packets packet) is
happens_recorded reads names w (event.Deliver j) is = deliver_recorded reads w (slice_get w.replies j) is
happens_recorded reads names w (event.Card machine sw) is = card_recorded w machine sw (w.machines machine) is
happens_recorded reads names w (event.Power machine boot) is = cond_both {A = World} (is_used w machine boot) w (powered w machine boot) RecordedIn (λ used. is) (λ unused. is)
happens_recorded reads names w (event.Office arrival stop) is =
    cond_both {A = World} (is_name_of names arrival.client || is_of_machines arrival.request) w (arrives w (arrived_as arrival) stop) RecordedIn (λ refused. is) (λ may. arrives_recorded w (arrived_as arrival) stop is)

pub run_recorded : (reads : HttpReply → Option Reply) (names : List (List ℕ)) (es : List Event) (w : World) → RecordedIn w → RecordedIn (run reads names es w)
run_recorded reads names [] w is = is
run_recorded reads names (e ∷ es) w is = run_recorded reads names es (happens reads names w e) (happens_recorded reads names w e is)

pub repeats_get_their_reply : (w : World) → RecordedIn w → RepeatsGetTheirReply w
repeats_get_their_reply w is =
    All-weaker (λ (g : Answered). IsKeptFor w.contents g.arrival g.http_reply) (λ (g : Answered). is_released w.contents.marks g.arrival ≡ false → http_reply_on w.contents g.arrival ≡ g.http_reply)
    (λ g still live. repeat_gets_reply w.contents g.arrival g.http_reply still live) w.decided is.still
