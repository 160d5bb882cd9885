-- The effect of each row of the table on its machine and on the inserted card.
use Rattle.std.proofs.Common.{◌≡◌, ◌≢◌, ◌≤◌, ◌+◌, ◌==◌, ◌||◌, ℕ, suc, Bool, true, false, List, [], ◌∷◌, ◌++◌, length, take, drop, Option, Some, None, refl, sym, ap, ◌∙◌, subst, inl, inr, arith}
use Rattle.std.specs.Prelude.{bytes_eq, slice_get, ⊤, option_map}
use Rattle.std.specs.List.{list_any}
use Rattle.std.proofs.Math.Seq.{take-suc}
use Rattle.std.proofs.lemmas.Bool.{cases_Bool, cond_both, cond-true, cond-false, eqb-true, eqb-false, eq-eqb, false≢true}
use Rattle.std.proofs.lemmas.List.{length-take-le, take-append-drop}
use Rattle.std.proofs.lemmas.Option.{get_or_from_slice_get, same_Some, slice_get-map, slice_get_within}
use Rattle.store_data.specs.Sequence.{Command}
use Rattle.job_facts.specs.declared.reply.Reply.{Reply}
use Rattle.job_facts.specs.declared.reply.Reply.TheVariants as reply
use Rattle.job_facts.specs.declared.request.Call.{Call}
use Rattle.job_facts.specs.declared.request.Call.TheVariants.{Job}
use Rattle.job_facts.specs.declared.request.Request.TheVariants as request
use Rattle.job_facts.specs.Facts.{Facts, Session}
use Rattle.job_facts.specs.States.{commands_for, session_numbered}
use Rattle.job_facts.specs.Contents.{Mark}
use Rattle.step_laws.proofs.GoodCards.{one_of_blank}
use Rattle.arrivals.specs.Commands.{IsCommand}
use Rattle.feeder.proofs.Replies.{OpenFits}
use Rattle.feeder.specs.declared.feeder.Stand.{Stand}
use Rattle.feeder.specs.declared.feeder.Stand.TheVariants.{Asks, HasCommand}
use Rattle.feeder.specs.Table.{Act, Apply, Becomes, Eject, FeederState, IsFeeder, Makes, Move, Row, Send, Stays, Wait, moved}
use Rattle.feeder.specs.World.{Card, Machine, Packet, World, at_serial, card_left, cards_after, put_out, with_command}
use Rattle.feeder.specs.ShopFloor.{IsCountedGood, sequence_of}
use Rattle.feeder.proofs.Fine.{Cards, Fine, Fits, Fresh, HasCard, Holds, IsFineCard, IsSent, OpensFresh, got}
use Rattle.feeder.proofs.Going.{Goes, name_same}

-- ---- moves

-- if the move leads to a given state, no request is pending in that state
abbrev pub IsQuietMove : Move → Type 0
IsQuietMove Stays = ⊤
IsQuietMove (Becomes stand) = (call : Call) → stand ≡ Asks call → ⊥
IsQuietMove (Makes call) = ⊤

pub moved_sent : (boots : List ℕ) (f : FeederState) (move : Move) (p : Packet) → IsQuietMove move → IsSent boots f p → IsSent boots (moved f move) p
moved_sent boots f Stays p quiet is = is
moved_sent boots f (Becomes stand) p quiet is = record {
  boot = is.boot;
  boot_least = is.boot_least;
  boot_most = is.boot_most;
  least = is.least;
  most = is.most;
  asked = is.asked;
  late = is.late;
  mine = λ boot place call asks. absurd (quiet call asks);
}
moved_sent boots f (Makes call) p quiet is = record {
  boot = is.boot;
  boot_least = is.boot_least;
  boot_most = is.boot_most;
  least = is.least;
  most = is.most;
  asked = is.asked;
  late = λ boot. omega (arith, is.late boot);
  mine = λ boot place call asks. absurd (omega (arith, is.late boot, place));
}

pub moved_own : (boots : List ℕ) (f : FeederState) (move : Move) (p : Packet) → IsQuietMove move → IsSent boots f p
    → (moved f move).boot ≡ p.boot → (moved f move).place ≡ p.place → (moved f move).stand ≡ Asks p.call → (f.boot ≡ p.boot) × (f.place ≡ p.place) × (f.stand ≡ Asks p.call)
moved_own boots f Stays p quiet is boot place stand = (boot, place, stand)
moved_own boots f (Becomes s) p quiet is boot place stand = absurd (quiet p.call stand)
moved_own boots f (Makes call) p quiet is boot place stand = absurd (omega (arith, is.late (sym boot), place))

-- ---- cards that receive no command

abbrev pub SameReceived : Cards → Cards → Type 0
SameReceived cards now = (serial : ℕ) → (now serial).received ≡ (cards serial).received

fresh_opens : (cards now : Cards) (blank : ℕ) (r : Reply) → SameReceived cards now → OpensFresh cards blank r → OpensFresh now blank r
fresh_opens cards now blank (reply.Opened b n command rec s) same is = same blank ∙ is
fresh_opens cards now blank _ same is = tt

pub fresh_same : (cards now : Cards) (call : Call) (r : Reply) → SameReceived cards now → Fresh cards call r → Fresh now call r
fresh_same cards now (Job (request.Open b blank)) r same is = fresh_opens cards now blank r same is
fresh_same cards now _ r same is = tt

-- `OpensFresh` stays true if the card of the opened session receives no command.
opens_by : (f : Facts) (m : List ℕ) (cards now : Cards) (blank : ℕ) (r : Reply)
    → ((t : ℕ) (z : Session) → session_numbered f.sessions t ≡ Some z → z.machine ≡ m → z.blank ≡ blank → (now blank).received ≡ (cards blank).received)
    → OpenFits f m blank r → OpensFresh cards blank r → OpensFresh now blank r
opens_by f m cards now blank (reply.Opened b n command rec s) same fits is = same s fits.0 fits.1 fits.2 fits.3 ∙ is
opens_by f m cards now blank _ same fits is = tt

fresh_by : (f : Facts) (marks : List Mark) (m : List ℕ) (cards now : Cards) (call : Call) (r : Reply)
    → ((t : ℕ) (z : Session) → session_numbered f.sessions t ≡ Some z → z.machine ≡ m → now z.blank ≡ cards z.blank) → Fits f marks m call r → Fresh cards call r → Fresh now call r
fresh_by f marks m cards now (Job (request.Open b blank)) r same fits is =
    opens_by f m cards now blank r (λ t z at own blank_is. let kept : (now z.blank).received ≡ (cards z.blank).received = ap (λ (c : Card). c.received) (same t z at own) in subst (λ v. (now v).received ≡ (cards v).received) blank_is kept) fits is
fresh_by f marks m cards now _ r same fits is = tt

has_same : (f : Facts) (cards now : Cards) (name : List ℕ) (card : Option ℕ) (s k : ℕ) → SameReceived cards now → HasCard f cards name card s k → HasCard f now name card s k
has_same f cards now name card s k same is = record {
  session = is.session;
  there = is.there;
  machine = is.machine;
  card_is = is.card_is;
  received = same is.session.blank ∙ is.received;
  within = is.within;
}

-- `Holds` stays true if `HasCard` does. The other states require nothing of received commands.
holds_by : (f : Facts) (cards now : Cards) (m name : List ℕ) (card : Option ℕ) (stand : Stand)
    → ((s k : ℕ) → HasCard f cards name card s k → HasCard f now m card s k) → Holds f cards name card stand → Holds f now m card stand
holds_by f cards now m name card (HasCommand s k) has is = has s k is
holds_by f cards now m name card (Asks (Job (request.Open b blank))) has is = is
holds_by f cards now m name card (Asks (Job (request.Answer s k sw))) has is = has s k is
holds_by f cards now m name card _ has is = tt

pub holds_same : (f : Facts) (cards now : Cards) (name : List ℕ) (card : Option ℕ) (stand : Stand) → SameReceived cards now → Holds f cards name card stand → Holds f now name card stand
holds_same f cards now name card stand same is = holds_by f cards now name name card stand (λ s k. has_same f cards now name card s k same) is

-- the action isn't `Apply`, so the card receives no command
abbrev pub IsQuietAct : Act → Type 0
IsQuietAct (Apply command) = ⊥
IsQuietAct (Eject good) = ⊤
IsQuietAct Send = ⊤
IsQuietAct Wait = ⊤

pub same_after : (cards : Cards) (card : Option ℕ) (act : Act) → IsQuietAct act → SameReceived cards (cards_after cards card act)
same_after cards card (Apply command) quiet = absurd quiet
same_after cards card Send quiet = λ serial. refl
same_after cards card Wait quiet = λ serial. refl
same_after cards None (Eject good) quiet = λ serial. refl
same_after cards (Some serial) (Eject good) quiet = λ s.
    cond_both {A = Card} (s == serial) (put_out (cards serial) good) (cards s) (λ c. c.received ≡ (cards s).received)
    (λ hit. ap (λ n. (cards n).received) (sym (eqb-true s serial hit))) (λ miss. refl)

-- if the action ejects the card as good, the card is counted good
abbrev pub PutOutIs : Facts → Option ℕ → Act → Type 0
PutOutIs f (Some serial) (Eject true) = IsCountedGood f serial
PutOutIs f card act = ⊤

good_after : (f : Facts) (cards : Cards) (card : Option ℕ) (act : Act) → PutOutIs f card act → ((serial : ℕ) → (cards serial).is_good ≡ true → IsCountedGood f serial)
    → (serial : ℕ) → (cards_after cards card act serial).is_good ≡ true → IsCountedGood f serial
good_after f cards None (Apply command) is fine serial good = fine serial good
good_after f cards None (Eject g) is fine serial good = fine serial good
good_after f cards None Send is fine serial good = fine serial good
good_after f cards None Wait is fine serial good = fine serial good
good_after f cards (Some c) Send is fine serial good = fine serial good
good_after f cards (Some c) Wait is fine serial good = fine serial good
good_after f cards (Some c) (Apply command) is fine serial good =
    cond_both {A = Card} (serial == c) (with_command (cards c) command) (cards serial) (λ x. x.is_good ≡ true → IsCountedGood f serial)
    (λ hit good. fine serial (ap (λ n. (cards n).is_good) (eqb-true serial c hit) ∙ good)) (λ miss good. fine serial good) good
good_after f cards (Some c) (Eject true) is fine serial good =
    cond_both {A = Card} (serial == c) (put_out (cards c) true) (cards serial) (λ x. x.is_good ≡ true → IsCountedGood f serial)
    (λ hit good. subst (IsCountedGood f) (sym (eqb-true serial c hit)) is) (λ miss good. fine serial good) good
good_after f cards (Some c) (Eject false) is fine serial good =
    cond_both {A = Card} (serial == c) (put_out (cards c) false) (cards serial) (λ x. x.is_good ≡ true → IsCountedGood f serial)
    (λ hit good. fine serial (ap (λ n. (cards n).is_good) (eqb-true serial c hit) ∙ or_false (cards c).is_good good)) (λ miss good. fine serial good) good
  where
    or_false : (b : Bool) → (b || false) ≡ true → b ≡ true
    or_false true h = refl
    or_false false h = h

-- ---- a row without a command for the card

module _ (names : List (List ℕ)) (w : World) (name : List ℕ) (x : Machine) (is : w.machines name ≡ Some x) (fine : Fine names w) where
  abbrev f : Facts
  f = w.contents.facts

  abbrev after : Row → Machine
  after row = record { feeder = moved x.feeder row.move; card = card_left x.card row.act }

  abbrev now : Row → Cards
  now row = cards_after w.cards x.card row.act

  one_machine : (z : Machine) → w.machines name ≡ Some z → x ≡ z
  one_machine z there = same_Some x z (sym is ∙ there)

  pub quiet_goes : (row : Row) → IsQuietMove row.move → IsQuietAct row.act → IsFeeder (moved x.feeder row.move) → (moved x.feeder row.move).machine ≡ name
      → Holds f w.cards name (card_left x.card row.act) (moved x.feeder row.move).stand → (moved x.feeder row.move).boot ≡ x.feeder.boot → PutOutIs f x.card row.act
      → Goes names w name (after row) w.boots (now row)
  quiet_goes row move act feeder named holds boot good =
      let same = same_after w.cards x.card row.act act in
      let was = fine.machines name x is in
      record {
        ok = record {
          feeder = feeder;
          name_is = named;
          listed = was.listed;
          boot = ap (λ c. list_any (λ b. b == c) (w.boots name)) boot ∙ was.boot;
          holds = holds_same f w.cards (now row) name (card_left x.card row.act) (moved x.feeder row.move).stand same holds;
        };
        boots_other = λ m other. refl;
        sent = λ z p there sent. moved_sent (w.boots name) x.feeder row.move p move (subst (λ (z : Machine). IsSent (w.boots name) z.feeder p) (sym (one_machine z there)) sent);
        own = λ z p there sent at_boot at_place at_stand.
            let sent_x = subst (λ (z : Machine). IsSent (w.boots name) z.feeder p) (sym (one_machine z there)) sent in
            let own = moved_own (w.boots name) x.feeder row.move p move sent_x at_boot at_place at_stand in
            let one = one_machine z there in (
              ap (λ (z : Machine). z.feeder.boot) (sym one) ∙ own.0,
              ap (λ (z : Machine). z.feeder.place) (sym one) ∙ own.1,
              ap (λ (z : Machine). z.feeder.stand) (sym one) ∙ own.2,
              λ r. fresh_same w.cards (now row) p.call r same,
            );
        more = λ serial. omega (arith, ap (λ (xs : List (List ℕ)). length xs) (same serial));
        cards_ok = λ serial. subst (IsFineCard f serial) (sym (same serial)) (fine.cards serial);
        put_out = good_after f w.cards x.card row.act good fine.put_out;
        holds_other = λ m z other. holds_same f w.cards (now row) m z.card z.feeder.stand same;
        fresh_other = λ p r other fits. fresh_same w.cards (now row) p.call r same;
      }

  -- ---- a row with a command for the card

  take_next : (xs : List (List ℕ)) (k : ℕ) (c : List ℕ) → slice_get xs k ≡ Some c → take k xs ++ c ∷ [] ≡ take (k + 1) xs
  take_next xs k c at =
      let next : k + 1 ≡ suc k = omega arith in
      ap (λ d. take k xs ++ d ∷ []) (sym (get_or_from_slice_get xs k c c at)) ∙ sym (take-suc xs k c (slice_get_within xs k c at)) ∙ ap (λ m. take m xs) (sym next)

  pub apply_goes : (s k : ℕ) (command : List ℕ) (y : Session) → session_numbered f.sessions s ≡ Some y → y.machine ≡ name → x.card ≡ Some y.blank
      → (w.cards y.blank).received ≡ take k (sequence_of f y) → IsCommand f y.batch y.rec k command → IsFeeder (moved x.feeder (Becomes (HasCommand s k)))
      → Goes names w name (record { feeder = moved x.feeder (Becomes (HasCommand s k)); card = x.card }) w.boots (cards_after w.cards x.card (Apply command))
  apply_goes s k command y there own card had next feeder =
      let was = fine.machines name x is in
      let seq : List (List ℕ) = sequence_of f y in
      let bytes_of : Command → List ℕ = λ c. c.bytes in
      let at : slice_get seq k ≡ Some command = slice_get-map bytes_of (commands_for f y.batch y.rec) k ∙ ap (option_map bytes_of) next.1 ∙ ap Some (sym next.2) in
      let cards : Cards = at_serial y.blank (with_command (w.cards y.blank) command) w.cards in
      let cards_are : cards_after w.cards x.card (Apply command) ≡ cards = ap (λ c. cards_after w.cards c (Apply command)) card in
      let here : (cards y.blank).received ≡ take (k + 1) seq =
      ap (λ (c : Card). c.received) (cond-true (y.blank == y.blank) (with_command (w.cards y.blank) command) (w.cards y.blank) (eq-eqb y.blank y.blank refl))
      ∙ ap (λ (xs : List (List ℕ)). xs ++ command ∷ []) had ∙ take_next seq k command at in
      let elsewhere : (serial : ℕ) → serial ≢ y.blank → cards serial ≡ w.cards serial = λ serial apart.
      elim (cases_Bool (serial == y.blank)) [
        | inl hit ↦ absurd (apart (eqb-true serial y.blank hit))
        | inr miss ↦ cond-false (serial == y.blank) (with_command (w.cards y.blank) command) (w.cards serial) miss
      ] in
      let not_other : (t : ℕ) (z : Session) (m : List ℕ) → session_numbered f.sessions t ≡ Some z → z.machine ≡ m → bytes_eq m name ≡ false → z.blank ≢ y.blank = λ t z m at_t of_m other same.
      let one : t ≡ s = one_of_blank f t s z y fine.sound at_t there same in
      let two : z ≡ y = same_Some z y (sym at_t ∙ ap (session_numbered f.sessions) one ∙ there) in
      let same_m : m ≡ name = sym of_m ∙ ap (λ (v : Session). v.machine) two ∙ own in
      false≢true (sym other ∙ ap (λ n. bytes_eq n name) same_m ∙ name_same name) in
      subst (Goes names w name (record { feeder = moved x.feeder (Becomes (HasCommand s k)); card = x.card }) w.boots) (sym cards_are) (record {
        ok = record {
          feeder = feeder;
          name_is = was.name_is;
          listed = was.listed;
          boot = was.boot;
          holds = record { session = y; there = there; machine = own; card_is = card; received = here; within = slice_get_within seq k command at };
        };
        boots_other = λ m other. refl;
        sent = λ z p at_name sent. moved_sent (w.boots name) x.feeder (Becomes (HasCommand s k)) p (λ call asks. absurd (apart s k call asks)) (subst (λ (z : Machine). IsSent (w.boots name) z.feeder p) (sym (one_machine z at_name)) sent);
        own = λ z p at_name sent at_boot at_place at_stand. absurd (apart s k p.call at_stand);
        more = λ serial. elim (cases_Bool (serial == y.blank)) [
          | inl hit ↦
              let same = eqb-true serial y.blank hit in
              let long : length (cards y.blank).received ≡ length (take (k + 1) seq) = ap (λ (xs : List (List ℕ)). length xs) here in
              let short : length (w.cards y.blank).received ≡ length (take k seq) = ap (λ (xs : List (List ℕ)). length xs) had in
              let within = slice_get_within seq k command at in
              subst (λ v. got w.cards v ≤ got cards v) (sym same) (omega (arith, long, short, length-take-le (k + 1) seq (omega (arith, within)), length-take-le k seq (omega (arith, within))))
          | inr miss ↦ omega (arith, ap (λ (c : Card). length c.received) (elsewhere serial (eqb-false serial y.blank miss)))
        ];
        cards_ok = λ serial. elim (cases_Bool (serial == y.blank)) [
          | inl hit ↦
              let same = eqb-true serial y.blank hit in
              inr (y, record { number = s; there = there; blank = sym same }, (drop (k + 1) seq, ap (λ v. (cards v).received ++ drop (k + 1) seq) same ∙ ap (λ (xs : List (List ℕ)). xs ++ drop (k + 1) seq) here ∙ take-append-drop (k + 1) seq))
          | inr miss ↦ subst (λ (c : Card). IsFineCard f serial c.received) (sym (elsewhere serial (eqb-false serial y.blank miss))) (fine.cards serial)
        ];
        put_out = subst (λ (cs : Cards). (serial : ℕ) → (cs serial).is_good ≡ true → IsCountedGood f serial) cards_are (good_after f w.cards x.card (Apply command) (none_put x.card) fine.put_out);
        holds_other = λ m z other. holds_by f w.cards cards m m z.card z.feeder.stand (λ t j has. record {
          session = has.session;
          there = has.there;
          machine = has.machine;
          card_is = has.card_is;
          received = ap (λ (c : Card). c.received) (elsewhere has.session.blank (not_other t has.session m has.there has.machine other)) ∙ has.received;
          within = has.within;
        });
        fresh_other = λ p r other fits fresh. fresh_by f w.contents.marks p.machine w.cards cards p.call r (λ t z at_t of_m. elsewhere z.blank (not_other t z p.machine at_t of_m other)) fits fresh;
      })
    where
      apart : (s k : ℕ) (call : Call) → HasCommand s k ≡ Asks call → ⊥
      apart s k call e = cc

      none_put : (card : Option ℕ) → PutOutIs f card (Apply command)
      none_put None = tt
      none_put (Some c) = tt
