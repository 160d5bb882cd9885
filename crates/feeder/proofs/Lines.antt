-- The clauses of the shop-floor theorem that follow from the invariant `Fine`.
use Rattle.std.proofs.Common.{◌≡◌, ◌≤◌, ◌<◌, ◌⊎◌, ◌*◌, ◌==◌, ℕ, true, false, Option, Some, None, List, [], ◌∷◌, ◌++◌, length, length-append, refl, sym, ap, ◌∙◌, subst, inl, inr, append-nil, arith}
use Rattle.std.specs.Prelude.{bytes_eq, filter, get_or, slice_get}
use Rattle.std.proofs.lemmas.Bool.{cases_Bool, cond-true, le-leb}
use Rattle.std.proofs.lemmas.List.{length-map}
use Rattle.std.proofs.lemmas.List.Elements.{All-weaker}
use Rattle.std.proofs.lemmas.Option.{same_Some, slice_get-get_or}
use Rattle.store_data.specs.Sequence.{Command}
use Rattle.job_facts.specs.declared.reply.Reply.{Reply}
use Rattle.job_facts.specs.declared.request.Call.{Call}
use Rattle.job_facts.specs.declared.request.Call.TheVariants.{Release}
use Rattle.job_facts.specs.Facts.{Facts, Session}
use Rattle.job_facts.specs.States.{commands_for, session_numbered}
use Rattle.job_facts.specs.Contents.{Entry, Mark, entry_of, mark_of}
use Rattle.step_laws.proofs.GoodCards.{good_whole, one_good, one_of_blank}
use Rattle.arrivals.specs.HttpReplies.{HttpReply, reused, status_of}
use Rattle.arrivals.specs.Meaning.{contents_after, http_reply_by, is_released}
use Rattle.arrivals.proofs.MeaningLemmas.{contents_released}
use Rattle.arrivals.proofs.Repeats.{repeat_gets_reply}
use Rattle.wire.specs.Sending.{ask_of}
use Rattle.feeder.specs.declared.world.Stop.{Stop}
use Rattle.feeder.specs.declared.world.Stop.TheVariants.{No, Before, After}
use Rattle.feeder.specs.Table.{number_at}
use Rattle.feeder.specs.World.{Answered, Machine, Packet, World, arrival_of, arrives, is_name_of}
use Rattle.feeder.specs.ShopFloor.{CardsAreCharged, GetsKept, GoodCardsAreWhole, InFlight, IsFirstArrival, IsSessionOf, OldBootsAreOver, PutOutIsCounted, RecordsHaveOneCard, ReleasesAreKept, sequence_of}
use Rattle.step_laws.proofs.Blanks.{only_of_blank}
use Rattle.feeder.proofs.Fine.{Fine, Fits, IsDecidedFine, IsFinePacket, got}
use Rattle.feeder.proofs.Arriving.{entry_for}
use Rattle.feeder.proofs.Going.{all_at, name_same}

module _ (names : List (List ℕ)) (w : World) (fine : Fine names w) where
  abbrev f : Facts
  f = w.contents.facts

  one_session : (serial : ℕ) (x y : Session) → IsSessionOf f serial x → IsSessionOf f serial y → x ≡ y
  one_session serial x y is_x is_y =
      same_Some x y (sym is_x.there ∙ ap (session_numbered f.sessions) (one_of_blank f is_x.number is_y.number x y fine.sound is_x.there is_y.there (is_x.blank ∙ sym is_y.blank)) ∙ is_y.there)

  whole_by : (received rest seq : List (List ℕ)) → length seq ≤ length received → received ++ rest ≡ seq → received ≡ seq
  whole_by received [] seq long is = sym (append-nil received) ∙ is
  whole_by received (c ∷ rest) seq long is = absurd (omega (arith, long, length-append received (c ∷ rest), ap (λ (xs : List (List ℕ)). length xs) is))

  none_by : (seq : List (List ℕ)) → length seq ≤ 0 → [] ≡ seq
  none_by [] few = refl
  none_by (c ∷ seq) few = absurd (omega arith)

  pub whole : GoodCardsAreWhole w
  whole serial x is good =
      let long : length (sequence_of f x) ≡ length (commands_for f x.batch x.rec) = length-map (commands_for f x.batch x.rec) (λ (c : Command). c.bytes) in
      let words = fine.words is.number x is.there in
      let at : got w.cards x.blank ≡ length (w.cards serial).received = ap (got w.cards) is.blank in
      let enough : length (sequence_of f x) ≤ length (w.cards serial).received = omega (arith, long, words, at, (good_whole f is.number x fine.sound is.there good).0) in
      elim (fine.cards serial) [
        | inl none ↦ none ∙ none_by (sequence_of f x) (omega (arith, enough, ap (λ (xs : List (List ℕ)). length xs) none))
        | inr has ↦
            let same : sequence_of f has.0 ≡ sequence_of f x = ap (sequence_of f) (one_session serial has.0 x has.1 is) in
            whole_by (w.cards serial).received has.2.0 (sequence_of f x) enough (has.2.1 ∙ same)
      ]

  pub charged : CardsAreCharged w
  charged serial some = elim (fine.cards serial) [
    | inl none ↦ absurd (some none)
    | inr has ↦ (has.0, ap (λ b. filter (λ (y : Session). y.blank == b) f.sessions) (sym has.1.blank) ∙ only_of_blank f has.1.number has.0 fine.sound has.1.there, has.2)
  ]

  pub one_card : RecordsHaveOneCard w
  one_card one two x y is_x is_y good_x good_y batch rec =
      let number = one_good f is_x.number is_y.number x y fine.sound is_x.there is_y.there good_x good_y (sym batch) (sym rec) in
      let same : x ≡ y = same_Some x y (sym is_x.there ∙ ap (session_numbered f.sessions) number ∙ is_y.there) in
      sym is_x.blank ∙ ap (λ (z : Session). z.blank) same ∙ is_y.blank

  pub put_out : PutOutIsCounted w
  put_out = fine.put_out

  fits_release : (marks : List Mark) (m : List ℕ) (call : Call) (upto : ℕ) (r : Reply) → call ≡ Release upto → Fits f marks m call r → status_of r ≡ 200 → upto ≤ mark_of marks m
  fits_release marks m call upto r is fits = let P : Call → Type 0 = λ c. Fits f marks m c r in subst P is fits

  -- The release mark of a machine has reached each of its accepted releases.
  released : (g : Answered) (i upto : ℕ) → slice_get w.decided i ≡ Some g → is_name_of names g.arrival.client ≡ true → g.arrival.request ≡ Release upto → g.http_reply.status ≡ 200
      → upto ≤ mark_of w.contents.marks g.arrival.client
  released g i upto there listed request accepted =
      let marks = w.contents.marks in
      let answer = all_at (IsDecidedFine names f marks w.cards w.machines w.packets) w.decided i g fine.decided there listed in
      let http_reply = answer.http_reply in
      let ok : status_of http_reply.reply ≡ 200 = ap (λ (t : HttpReply). t.status) http_reply.text ∙ accepted in
      subst (λ m. upto ≤ mark_of marks m) http_reply.client_is (fits_release marks http_reply.packet.machine http_reply.packet.call upto http_reply.reply (answer.call ∙ request) http_reply.fits ok)

  pub old_boots : OldBootsAreOver w
  old_boots machine boot is = All-weaker (IsFinePacket f w.cards w.machines w.boots) (λ (p : Packet). p.machine ≡ machine → p.boot < boot → (stop : Stop) → (arrives w (arrival_of p) stop).contents ≡ w.contents)
      (λ p one own below.
      let listed : is_name_of names is.release.arrival.client ≡ true = ap (is_name_of names) (is.client ∙ sym own) ∙ (fine.machines p.machine one.sender one.there).listed in
      let upto : boot * 10000000 ≤ mark_of w.contents.marks is.release.arrival.client = released is.release is.at (boot * 10000000) is.there listed is.request is.accepted in
      let here : mark_of w.contents.marks is.release.arrival.client ≡ mark_of w.contents.marks p.machine = ap (mark_of w.contents.marks) (is.client ∙ sym own) in
      let most = one.sent.most in
      let under : number_at p.boot p.place ≤ mark_of w.contents.marks p.machine = omega (arith, upto, here, below, most) in
      let gone : is_released w.contents.marks (arrival_of p) ≡ true = le-leb (number_at p.boot p.place) (mark_of w.contents.marks p.machine) under in
      let same : contents_after w.contents (arrival_of p ∷ []) ≡ w.contents = contents_released w.contents (arrival_of p) fine.above gone in
      by_stop p same)
      w.packets fine.packets
    where
      by_stop : (p : Packet) → contents_after w.contents (arrival_of p ∷ []) ≡ w.contents → (stop : Stop) → (arrives w (arrival_of p) stop).contents ≡ w.contents
      by_stop p same Before = refl
      by_stop p same After = same
      by_stop p same No = same

  pub in_flight : InFlight w
  in_flight i d within =
      let p = get_or w.packets i d in
      let a = arrival_of p in
      let there : slice_get w.packets i ≡ Some p = slice_get-get_or w.packets i d within in
      let one = all_at (IsFinePacket f w.cards w.machines w.boots) w.packets i p fine.packets there in
      let listed : is_name_of names p.machine ≡ true = (fine.machines p.machine one.sender one.there).listed in
      elim (cases_Bool (is_released w.contents.marks a)) [
        | inl gone ↦ inl gone
        | inr live ↦ inr (by_entry p i listed there live (entry_of w.contents.kept p.machine a.number) refl)
      ]
    where
      by_entry : (p : Packet) (i : ℕ) → is_name_of names p.machine ≡ true → slice_get w.packets i ≡ Some p → is_released w.contents.marks (arrival_of p) ≡ false
          → (o : Option Entry) → entry_of w.contents.kept p.machine (number_at p.boot p.place) ≡ o → IsFirstArrival w.contents (arrival_of p) ⊎ GetsKept w.contents (arrival_of p)
      by_entry p i listed there live None none = inl (record { live = live; none = none })
      by_entry p i listed there live (Some e) some =
          let found = entry_for names w fine p i e listed there some in
          let a = arrival_of p in
          let ask : e.ask ≡ a.ask = found.0.ask ∙ ap ask_of found.1 in
          let kept : HttpReply = record { status = e.status; body = e.body } in
          let http_reply : http_reply_by a.ask e ≡ kept = cond-true (bytes_eq e.ask a.ask) kept reused (ap (λ x. bytes_eq x a.ask) ask ∙ name_same a.ask) in
          inr (record { entry = e; kept = some; ask = ask; http_reply = repeat_gets_reply w.contents a kept (λ live. (e, some, http_reply)) live })

  pub releases_kept : ReleasesAreKept w
  releases_kept = All-weaker (λ (g : Answered). (i : ℕ) × (slice_get w.decided i ≡ Some g))
      (λ (g : Answered). (x : Machine) (upto : ℕ) → w.machines g.arrival.client ≡ Some x → g.arrival.request ≡ Release upto → g.http_reply.status ≡ 200 → upto ≤ mark_of w.contents.marks g.arrival.client)
      (λ g is x upto there request accepted. released g is.0 upto is.1 (fine.machines g.arrival.client x there).listed request accepted)
      w.replies fine.given
