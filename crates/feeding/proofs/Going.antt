-- Each try that doesn't end the feed leads to a later request number, or increases the number of
-- consecutive tries that changed nothing.
use Rattle.std.proofs.Common.{◌≡◌, ◌≤◌, ◌<◌, ◌==◌, ℕ, ◌+◌, ◌*◌, ◌-◌, false, List, [], ◌∷◌, Option, Some, None, Result, Ok, Err, refl, sym, ap, subst, ◌∙◌, arith}
use Rattle.std.specs.Prelude.{nat_lt, if◌then◌else◌}
use Rattle.std.proofs.lemmas.Bool.{cond_both, eqb-true, eqb-false}
use Rattle.std.proofs.lemmas.Option.{same_Some}
use Rattle.job_facts.specs.declared.reply.Reply.{Reply}
use Rattle.job_facts.specs.declared.request.Call.{Call}
use Rattle.job_facts.specs.declared.request.Call.TheVariants.{Job}
use Rattle.job_facts.specs.declared.request.Request.TheVariants as request
use Rattle.feeder.specs.declared.feeder.InsertFault.{InsertFault}
use Rattle.feeder.specs.declared.feeder.InsertFault.TheVariants.{Exhausted}
use Rattle.feeder.specs.declared.feeder.Stand.{Stand}
use Rattle.feeder.specs.declared.feeder.Stand.TheVariants.{Idle, Asks, HasCommand, Stale}
use Rattle.feeder.specs.Table.{Act, Apply, Becomes, Done, Eject, FeederState, Makes, Move, Send, Stays, Wait, after_insert, after_reply, asked, asked_by, card_row, done, heard_by, inserted_by, moved, no_row, number_at, reply_row}
use Rattle.feeding.specs.Cards.{Card, card_of, end_line}
use Rattle.feeding.specs.Feeds.{Feed, acts, by_reply, drawn, draws, goes_on, hears, is_asked, prints, put_in, settled, tried, worded}

-- feeder `g` has the boot number of feeder `f`, and the same place or a later one
pub record Later (f g : FeederState) : Type 0 where
  pub boot : g.boot ≡ f.boot
  pub place : f.place ≤ g.place

same : (f : FeederState) → Later f f
same f = record { boot = refl; place = omega arith }

then_later : (f g h : FeederState) → Later f g → Later g h → Later f h
then_later f g h first next = record { boot = next.boot ∙ first.boot; place = omega (arith, first.place, next.place) }

moved_later : (f : FeederState) (move : Move) → Later f (moved f move)
moved_later f Stays = same f
moved_later f (Becomes stand) = record { boot = refl; place = omega arith }
moved_later f (Makes call) = record { boot = refl; place = omega arith }

heard_later : (f : FeederState) (ask : Option (ℕ × Call)) (n : ℕ) (r : Reply) → Later f (heard_by f ask n r).0
heard_later f None n r = same f
heard_later f (Some ask) n r =
    cond_both {A = Done} _ (done f (reply_row ask.1 r)) (done f no_row) (λ d. Later f d.0) (λ here. moved_later f (reply_row ask.1 r).move) (λ other. same f)

makes_later : (f : FeederState) (batch : List ℕ) (blank : ℕ) → Later f (inserted_by f Idle batch blank).0
makes_later f batch blank =
    cond_both {A = FeederState × Result (Unit {0}) InsertFault} (nat_lt 8000000 f.place) (f, Err Exhausted) (moved f (Makes (Job (request.Open batch blank))), Ok tt) (λ d. Later f d.0)
    (λ last. same f) (λ more. moved_later f (Makes (Job (request.Open batch blank))))

insert_later : (f : FeederState) (stand : Stand) (batch : List ℕ) (blank : ℕ) → Later f (inserted_by f stand batch blank).0
insert_later f Idle batch blank = makes_later f batch blank
insert_later f (Asks call) batch blank = same f
insert_later f (HasCommand s k) batch blank = same f
insert_later f Stale batch blank = same f

-- feed `g` has the feeder of feed `f` or a later one, and the same number of tries
pub record Follows (f g : Feed) : Type 0 where
  pub feeder : Later f.feeder g.feeder
  pub tries : g.tries ≡ f.tries

goes_then : (f g h : Feed) → Follows f g → Follows g h → Follows f h
goes_then f g h first next = record { feeder = then_later f.feeder g.feeder h.feeder first.feeder next.feeder; tries = next.tries ∙ first.tries }

worded_goes : (f g : Feed) (act : Act) → Follows f g → Follows f (worded g act)
worded_goes f g (Apply command) is = record { feeder = is.feeder; tries = is.tries }
worded_goes f g _ is = record { feeder = is.feeder; tries = is.tries }

acts_goes : (f : Feed) (act : Act) → Follows f (acts f act)
acts_goes f (Eject good) = record { feeder = same f.feeder; tries = refl }
acts_goes f Send = record { feeder = same f.feeder; tries = refl }
acts_goes f Wait = record { feeder = same f.feeder; tries = refl }
acts_goes f (Apply command) = worded_goes f _ _ (record { feeder = moved_later f.feeder (card_row f.feeder.place f.feeder.stand _).move; tries = refl })

put_goes : (f : Feed) (c : Card) (ls : List (List ℕ)) (next : Feed → Feed) (g : FeederState) (r : Result (Unit {0}) InsertFault) → ((h : Feed) → Follows h (next h)) → Later f.feeder g
    → Follows f (put_in f c ls next g r)
put_goes f c ls next g (Ok u) h later = record { feeder = later; tries = refl }
put_goes f c ls next g (Err why) h later =
    let p = record (prints f (end_line c.serial false)) { feeder = g; left = ls; taken = f.taken + 1 } in goes_then f p (next p) (record { feeder = later; tries = refl }) (h p)

drawn_goes : (f : Feed) (l : List ℕ) (ls : List (List ℕ)) (next : Feed → Feed) (o : Option Card) → ((h : Feed) → Follows h (next h)) → Follows f (drawn f l ls next o)
drawn_goes f l ls next None h = record { feeder = same f.feeder; tries = refl }
drawn_goes f l ls next (Some c) h =
    let d = after_insert f.feeder f.batch c.serial in put_goes f c ls next d.0 d.1 h (insert_later f.feeder f.feeder.stand f.batch c.serial)

draws_goes : (f : Feed) (ls : List (List ℕ)) → Follows f (draws f ls)
draws_goes f [] = record { feeder = same f.feeder; tries = refl }
draws_goes f (l ∷ ls) = drawn_goes f l ls (λ g. draws g ls) (card_of l) (λ g. draws_goes g ls)

settled_goes : (f : Feed) (stand : Stand) → Follows f (goes_on f stand)
settled_goes f Idle = draws_goes f f.left
settled_goes f (Asks call) = record { feeder = same f.feeder; tries = refl }
settled_goes f (HasCommand s k) = record { feeder = same f.feeder; tries = refl }
settled_goes f Stale = record { feeder = same f.feeder; tries = refl }

by_goes : (f : Feed) (n : ℕ) (o : Option Reply) → Follows f (by_reply f n o)
by_goes f n None = record { feeder = same f.feeder; tries = refl }
by_goes f n (Some r) =
    let d = after_reply f.feeder n r in let g = record f { feeder = d.0 } in let is = acts_goes g d.1 in
    goes_then f g (acts g d.1) (record { feeder = heard_later f.feeder (asked f.feeder) n r; tries = refl }) is

-- ---- the remaining tries

-- a measure of the remaining tries, for request numbers below `most`
abbrev left_by : ℕ → Feed → Option (ℕ × Call) → ℕ
left_by most f None = 0
left_by most f (Some ask) = (most - ask.0) * 11 + (11 - f.tries)

abbrev pub left_of : ℕ → Feed → ℕ
left_of most f = left_by most f (asked f.feeder)

pub asked_number : (f : FeederState) (stand : Stand) (ask : ℕ × Call) → asked_by f stand ≡ Some ask → ask.0 ≡ number_at f.boot f.place
asked_number f Idle ask is = cc
asked_number f (Asks call) ask is = sym (ap (λ (a : ℕ × Call). a.0) (same_Some _ _ is))
asked_number f (HasCommand s k) ask is = cc
asked_number f Stale ask is = cc

-- A try decreases the measure. After it no request, the same request or a later request is pending.
left_after : (most : ℕ) (f g : Feed) (n : ℕ) (next : Option (ℕ × Call)) → asked g.feeder ≡ next → n ≡ number_at f.feeder.boot f.feeder.place → Follows f g → f.tries < 10 → n < most
    → left_by most (record g { tries = if is_asked n next then g.tries + 1 else 0 }) next < (most - n) * 11 + (11 - f.tries)
left_after most f g n None is here goes few fits = omega (arith, few)
left_after most f g n (Some ask) is here goes few fits =
    let there : ask.0 ≡ number_at g.feeder.boot g.feeder.place = asked_number g.feeder g.feeder.stand ask is in
    cond_both {A = ℕ} (n == ask.0) (g.tries + 1) 0 (λ t. (most - ask.0) * 11 + (11 - t) < (most - n) * 11 + (11 - f.tries))
    (λ again. let one : n ≡ ask.0 = eqb-true n ask.0 again in omega (arith, one, few, goes.tries))
    (λ later. let on : n < ask.0 = omega (arith, eqb-false n ask.0 later, here, there, goes.feeder.boot, goes.feeder.place) in omega (arith, on, few, fits))

tried_left : (most : ℕ) (f : Feed) (ask : ℕ × Call) (o : Option Reply) → asked f.feeder ≡ Some ask → f.tries < 10 → ask.0 < most
    → left_of most (tried f (Some ask) o) < (most - ask.0) * 11 + (11 - f.tries)
tried_left most f ask o is few fits =
    let f0 = record f { text = [] } in
    let g = by_reply f0 ask.0 o in
    left_after most f (settled g) ask.0 (asked (settled g).feeder) refl (asked_number f.feeder f.feeder.stand ask is)
    (let all = goes_then f0 g (settled g) (by_goes f0 ask.0 o) (settled_goes g g.feeder.stand) in record { feeder = all.feeder; tries = all.tries }) few fits

-- Each try decreases the measure of the remaining tries.
pub less_left : (most : ℕ) (f : Feed) (ask : ℕ × Call) (o : Option Reply) → asked f.feeder ≡ Some ask → f.tries < 10 → ask.0 < most → left_of most (hears f o) < left_of most f
less_left most f ask o is few fits = subst (λ a. left_of most (tried f a o) < left_by most f a) (sym is) (tried_left most f ask o is few fits)

-- At most ten consecutive tries change nothing.

tried_few : (f : Feed) (ask : Option (ℕ × Call)) (o : Option Reply) → f.tries < 10 → (tried f ask o).tries ≤ 10
tried_few f None o few = omega (arith, few)
tried_few f (Some ask) o few =
    let f0 = record f { text = [] } in
    let g = by_reply f0 ask.0 o in
    let all = goes_then f0 g (settled g) (by_goes f0 ask.0 o) (settled_goes g g.feeder.stand) in
    cond_both {A = ℕ} (is_asked ask.0 (asked (settled g).feeder)) ((settled g).tries + 1) 0 (λ t. t ≤ 10) (λ again. omega (arith, few, all.tries)) (λ later. omega arith)

pub hears_few : (f : Feed) (o : Option Reply) → f.tries < 10 → (hears f o).tries ≤ 10
hears_few f o few = tried_few f (asked f.feeder) o few

-- The number of tries is unchanged until the new try is counted.
pub same_tries : (f t s : Feed) (n : ℕ) (o : Option Reply) → t ≡ by_reply f n o → s ≡ settled t → s.tries ≡ f.tries
same_tries f t s n o took settles = ap (λ (g : Feed). g.tries) settles ∙ (settled_goes t t.feeder.stand).tries ∙ ap (λ (g : Feed). g.tries) took ∙ (by_goes f n o).tries
