-- The effect of each call of a feeder on its machine and on the inserted card.
use Rattle.std.proofs.Common.{◌≡◌, ◌<◌, ◌^◌, ◌+◌, ◌&&◌, ℕ, true, false, List, take, Option, Some, None, refl, sym, ap, ◌∙◌, subst, arith}
use Rattle.std.specs.Prelude.{nat_le, nat_lt}
use Rattle.std.proofs.lemmas.Bool.{and_parts, cond_both, leb-true, leb-false}
use borrow.Author.Tests.{ltb-true}
use Rattle.std.proofs.lemmas.Option.{same_Some}
use Rattle.job_facts.specs.declared.reply.Reply.{Reply}
use Rattle.job_facts.specs.declared.reply.Reply.TheVariants as reply
use Rattle.job_facts.specs.declared.request.Call.{Call}
use Rattle.job_facts.specs.declared.request.Call.TheVariants.{Job, Release}
use Rattle.job_facts.specs.declared.request.Request.TheVariants as request
use Rattle.job_facts.specs.Facts.{Facts, Session}
use Rattle.job_facts.specs.States.{session_numbered}
use Rattle.arrivals.specs.Commands.{IsCommand}
use Rattle.feeder.specs.declared.feeder.Stand.{Stand}
use Rattle.feeder.specs.declared.feeder.Stand.TheVariants.{Idle, Asks, HasCommand, Stale}
use Rattle.feeder.specs.Table.{Act, Apply, Becomes, Eject, IsAsked, IsFeeder, IsStand, Makes, Row, Send, Wait, answer_row, card_row, command_row, is_answerable, moved, no_row, open_row, release_row, reply_row, reset_row}
use Rattle.feeder.specs.World.{Machine, World, card_left, cards_after}
use Rattle.feeder.specs.ShopFloor.{IsCountedGood, sequence_of}
use Rattle.feeder.proofs.Fine.{Fine, Fits, Fresh, HasCard, Holds}
use Rattle.feeder.proofs.Going.{Goes}
use Rattle.feeder.proofs.Rows.{IsQuietAct, PutOutIs, apply_goes, quiet_goes}

-- An action that rejects the card, sends the request or waits ejects no card as good.
put_bad : (f : Facts) (card : Option ℕ) → PutOutIs f card (Eject false)
put_bad f None = tt
put_bad f (Some c) = tt

put_wait : (f : Facts) (card : Option ℕ) → PutOutIs f card Wait
put_wait f None = tt
put_wait f (Some c) = tt

put_send : (f : Facts) (card : Option ℕ) → PutOutIs f card Send
put_send f None = tt
put_send f (Some c) = tt

put_good : (f : Facts) (card : Option ℕ) (serial : ℕ) → card ≡ Some serial → IsCountedGood f serial → PutOutIs f card (Eject true)
put_good f None serial e good = tt
put_good f (Some c) serial e good = subst (IsCountedGood f) (sym (same_Some c serial e)) good

idle_apart : (call : Call) → Idle ≡ Asks call → ⊥
idle_apart call e = cc

stale_apart : (call : Call) → Stale ≡ Asks call → ⊥
stale_apart call e = cc

module _ (names : List (List ℕ)) (w : World) (name : List ℕ) (x : Machine) (is : w.machines name ≡ Some x) (fine : Fine names w) where
  abbrev f : Facts
  f = w.contents.facts

  -- `Goes` is true of the machine and the cards after the move and the action of `row`
  abbrev pub GoesBy : Row → Type 0
  GoesBy row = Goes names w name (record { feeder = moved x.feeder row.move; card = card_left x.card row.act }) w.boots (cards_after w.cards x.card row.act)

  feeder_is : IsFeeder x.feeder
  feeder_is = (fine.machines name x is).feeder

  pub no_row_goes : GoesBy no_row
  no_row_goes = let was = fine.machines name x is in quiet_goes names w name x is fine no_row tt tt was.feeder was.name_is was.holds refl (put_wait f x.card)

  -- A feeder that changes only its state keeps its invariant if the new state is valid.
  stands_is : (stand : Stand) → IsStand x.feeder.boot x.feeder.place stand → IsFeeder (moved x.feeder (Becomes stand))
  stands_is stand ok = let was = feeder_is in
      record { machine = was.machine; boot_least = was.boot_least; boot_most = was.boot_most; place_least = was.place_least; place_most = was.place_most; stand = ok }

  makes_is : (call : Call) → x.feeder.place < 9999999 → IsAsked x.feeder.boot (x.feeder.place + 1) call → IsFeeder (moved x.feeder (Makes call))
  makes_is call few ok = let was = feeder_is in
      record { machine = was.machine; boot_least = was.boot_least; boot_most = was.boot_most; place_least = omega arith; place_most = omega arith; stand = ok }

  idle_goes : (act : Act) → IsQuietAct act → PutOutIs f x.card act → GoesBy (record { move = Becomes Idle; act = act })
  idle_goes act quiet good = quiet_goes names w name x is fine (record { move = Becomes Idle; act = act }) idle_apart quiet (stands_is Idle tt) (fine.machines name x is).name_is tt refl good

  stale_goes : (act : Act) → IsQuietAct act → PutOutIs f x.card act → GoesBy (record { move = Becomes Stale; act = act })
  stale_goes act quiet good = quiet_goes names w name x is fine (record { move = Becomes Stale; act = act }) stale_apart quiet (stands_is Stale tt) (fine.machines name x is).name_is tt refl good

  makes_goes : (call : Call) (act : Act) → IsQuietAct act → PutOutIs f x.card act → x.feeder.place < 9999999 → IsAsked x.feeder.boot (x.feeder.place + 1) call
      → Holds f w.cards name (card_left x.card act) (Asks call) → GoesBy (record { move = Makes call; act = act })
  makes_goes call act quiet good few ok holds = quiet_goes names w name x is fine (record { move = Makes call; act = act }) tt quiet (makes_is call few ok) (fine.machines name x is).name_is holds refl good

  command_goes : (s k : ℕ) (command : List ℕ) (y : Session) → session_numbered f.sessions s ≡ Some y → y.machine ≡ name → x.card ≡ Some y.blank
      → (w.cards y.blank).received ≡ take k (sequence_of f y) → IsCommand f y.batch y.rec k command → GoesBy (command_row s k command)
  command_goes s k command y there own card had next =
      cond_both {A = Row} (is_answerable s k) (record { move = Becomes (HasCommand s k); act = Apply command }) no_row GoesBy
      (λ can.
      let both = and_parts (nat_le 1 s && nat_lt s (10 ^ 18)) (nat_lt k (2 ^ 32)) can in
      let first = and_parts (nat_le 1 s) (nat_lt s (10 ^ 18)) both.0 in
      apply_goes names w name x is fine s k command y there own card had next (stands_is (HasCommand s k) (leb-true 1 s first.0, ltb-true s (10 ^ 18) first.1, ltb-true k (2 ^ 32) both.1)))
      (λ cannot. no_row_goes)

  release_goes : (upto : ℕ) (r : Reply) → IsAsked x.feeder.boot x.feeder.place (Release upto) → GoesBy (release_row r)
  release_goes upto (reply.Released mark) asked = makes_goes (Job request.Reset) Wait tt (put_wait f x.card) (omega (arith, asked.0)) (omega (arith, asked.0)) tt
  release_goes upto (reply.NumberReleased mark) asked = stale_goes Wait tt (put_wait f x.card)
  release_goes upto _ asked = no_row_goes

  reset_goes : (r : Reply) → GoesBy (reset_row r)
  reset_goes (reply.Reset s) = idle_goes Wait tt (put_wait f x.card)
  reset_goes (reply.NumberReleased mark) = stale_goes Wait tt (put_wait f x.card)
  reset_goes _ = no_row_goes

  open_goes : (b : List ℕ) (blank : ℕ) (r : Reply) → IsAsked x.feeder.boot x.feeder.place (Job (request.Open b blank)) → x.card ≡ Some blank
      → Fits f w.contents.marks name (Job (request.Open b blank)) r → Fresh w.cards (Job (request.Open b blank)) r → GoesBy (open_row r)
  open_goes b blank (reply.Opened c m command rec s) asked card fits fresh =
      command_goes s 0 command fits.0 fits.1 fits.2 (card ∙ ap Some (sym fits.3)) (ap (λ v. (w.cards v).received) fits.3 ∙ fresh) fits.4
  open_goes b blank (reply.Busy s) asked card fits fresh = makes_goes (Job request.Reset) (Eject false) tt (put_bad f x.card) (omega (arith, asked.2)) (omega (arith, asked.2)) tt
  open_goes b blank (reply.NumberReleased mark) asked card fits fresh = stale_goes (Eject false) tt (put_bad f x.card)
  open_goes b blank (reply.Refused why) asked card fits fresh = idle_goes (Eject false) tt (put_bad f x.card)
  open_goes b blank (reply.Faulty fault) asked card fits fresh = idle_goes (Eject false) tt (put_bad f x.card)
  open_goes b blank _ asked card fits fresh = no_row_goes

  answer_goes : (s k sw : ℕ) (r : Reply) → HasCard f w.cards name x.card s k → Fits f w.contents.marks name (Job (request.Answer s k sw)) r → GoesBy (answer_row r)
  answer_goes s k sw (reply.Next command index named) has fits =
      let one : has.session ≡ fits.2 = same_Some has.session fits.2 (sym has.there ∙ fits.3) in
      command_goes named index command fits.2 (ap (session_numbered f.sessions) fits.0 ∙ fits.3) fits.4 (has.card_is ∙ ap (λ (z : Session). Some z.blank) one)
      (ap (λ (z : Session). (w.cards z.blank).received) (sym one) ∙ has.received ∙ ap (λ (z : Session). take (k + 1) (sequence_of f z)) one ∙ ap (λ m. take m (sequence_of f fits.2)) (sym fits.1)) fits.5
  answer_goes s k sw (reply.Good named) has fits =
      let one : has.session ≡ fits.1 = same_Some has.session fits.1 (sym has.there ∙ fits.2) in
      idle_goes (Eject true) tt (put_good f x.card has.session.blank has.card_is (fits.1, record { number = s; there = fits.2; blank = ap (λ (z : Session). z.blank) (sym one) }, fits.3))
  answer_goes s k sw (reply.Spoiled named) has fits = idle_goes (Eject false) tt (put_bad f x.card)
  answer_goes s k sw (reply.Busy named) has fits = idle_goes (Eject false) tt (put_bad f x.card)
  answer_goes s k sw (reply.NumberReleased mark) has fits = stale_goes (Eject false) tt (put_bad f x.card)
  answer_goes s k sw (reply.Refused why) has fits = idle_goes (Eject false) tt (put_bad f x.card)
  answer_goes s k sw (reply.Faulty fault) has fits = idle_goes (Eject false) tt (put_bad f x.card)
  answer_goes s k sw _ has fits = no_row_goes

  -- `Goes` is true after the reply to the pending request.
  pub reply_goes : (call : Call) (r : Reply) → x.feeder.stand ≡ Asks call → Fits f w.contents.marks name call r → Fresh w.cards call r → GoesBy (reply_row call r)
  reply_goes call r stand fits fresh = at call fits fresh (subst (IsStand x.feeder.boot x.feeder.place) stand feeder_is.stand) (subst (Holds f w.cards name x.card) stand (fine.machines name x is).holds)
    where
      at : (call : Call) → Fits f w.contents.marks name call r → Fresh w.cards call r → IsAsked x.feeder.boot x.feeder.place call → Holds f w.cards name x.card (Asks call) → GoesBy (reply_row call r)
      at (Release upto) fits fresh asked holds = release_goes upto r asked
      at (Job request.Reset) fits fresh asked holds = reset_goes r
      at (Job (request.Open b blank)) fits fresh asked holds = open_goes b blank r asked holds fits fresh
      at (Job (request.Answer s k sw)) fits fresh asked holds = answer_goes s k sw r holds fits
      at (Job (request.Product p)) fits fresh asked holds = no_row_goes
      at (Job (request.Lot l)) fits fresh asked holds = no_row_goes
      at (Job (request.Import b p raw)) fits fresh asked holds = no_row_goes
      at (Job (request.Abort s)) fits fresh asked holds = no_row_goes
      at (Job (request.Discard blank)) fits fresh asked holds = no_row_goes
      at (Job (request.Remake b rec)) fits fresh asked holds = no_row_goes
      at (Job (request.Withdraw b rec)) fits fresh asked holds = no_row_goes
      at (Job (request.Close b)) fits fresh asked holds = no_row_goes

  -- `Goes` is true after a status word of the card.
  pub card_goes : (sw : ℕ) → sw < 2 ^ 16 → GoesBy (card_row x.feeder.place x.feeder.stand sw)
  card_goes sw small = at x.feeder.stand feeder_is.stand (fine.machines name x is).holds
    where
      at : (stand : Stand) → IsStand x.feeder.boot x.feeder.place stand → Holds f w.cards name x.card stand → GoesBy (card_row x.feeder.place stand sw)
      at (HasCommand s k) ok has =
          cond_both {A = Row} (nat_le 9999999 x.feeder.place) (record { move = Becomes Idle; act = Eject false }) (record { move = Makes (Job (request.Answer s k sw)); act = Send }) GoesBy
          (λ last. idle_goes (Eject false) tt (put_bad f x.card))
          (λ more. makes_goes (Job (request.Answer s k sw)) Send tt (put_send f x.card) (leb-false 9999999 x.feeder.place more) (ok.0, ok.1, ok.2, small) has)
      at Idle ok has = no_row_goes
      at (Asks call) ok has = no_row_goes
      at Stale ok has = no_row_goes
