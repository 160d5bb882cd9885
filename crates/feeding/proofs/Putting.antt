-- The cards that can't be inserted because the boot has too few numbers left.
use Rattle.std.proofs.Common.{◌≡◌, ◌+◌, ℕ, true, false, List, [], ◌∷◌, Option, Some, None, Result, Ok, Err, refl, sym, ap, subst, ◌∙◌}
use Rattle.std.specs.Prelude.{if◌then◌else◌, nat_lt}
use Rattle.std.proofs.lemmas.Bool.{cond_both}
use Rattle.job_facts.specs.declared.reply.Reply.{Reply}
use Rattle.job_facts.specs.declared.request.Call.TheVariants.{Job}
use Rattle.job_facts.specs.declared.request.Request.TheVariants as request
use Rattle.feeder.specs.declared.feeder.InsertFault.{InsertFault}
use Rattle.feeder.specs.declared.feeder.InsertFault.TheVariants.{Exhausted}
use Rattle.feeder.specs.declared.feeder.Stand.{Stand}
use Rattle.feeder.specs.declared.feeder.Stand.TheVariants.{Idle, Asks, HasCommand, Stale}
use Rattle.feeder.specs.Table.{Act, Apply, Eject, FeederState, Makes, Send, Wait, after_card, after_insert, after_reply, inserted_by, moved}
use Rattle.feeding.specs.Cards.{Card, card_of, end_line, next_word}
use Rattle.feeding.specs.Events.{card_before, cards_in, left_out, without_numbers}
use Rattle.feeding.specs.Feeds.{Feed, acts_by, by_reply, drawn, draws, goes_on, prints, put_in, puts_out, settled, worded}

-- the boot of feeder `g` has too few numbers left for another card
abbrev IsUsedUp : FeederState → Type 0
IsUsedUp g = nat_lt 8000000 g.place ≡ true

abbrev Inserted : Type 0
Inserted = FeederState × Result (Unit {0}) InsertFault

inserted_idle : (g : FeederState) (batch : List ℕ) (blank : ℕ) → g.stand ≡ Idle → after_insert g batch blank ≡ inserted_by g Idle batch blank
inserted_idle g batch blank idle = ap (λ s. inserted_by g s batch blank) idle

inserted_up : (g : FeederState) (batch : List ℕ) (blank : ℕ) → g.stand ≡ Idle → IsUsedUp g → after_insert g batch blank ≡ (g, Err Exhausted)
inserted_up g batch blank idle up = inserted_idle g batch blank idle ∙ ap (λ b. if b then (g, Err Exhausted) else (moved g (Makes (Job (request.Open batch blank))), Ok tt)) up

inserted_in : (g : FeederState) (batch : List ℕ) (blank : ℕ) → g.stand ≡ Idle → nat_lt 8000000 g.place ≡ false → after_insert g batch blank ≡ (moved g (Makes (Job (request.Open batch blank))), Ok tt)
inserted_in g batch blank idle more = inserted_idle g batch blank idle ∙ ap (λ b. if b then (g, Err Exhausted) else (moved g (Makes (Job (request.Open batch blank))), Ok tt)) more

-- ---- a boot with too few numbers

draws_up : (f : Feed) (ls : List (List ℕ)) → f.feeder.stand ≡ Idle → IsUsedUp f.feeder → (draws f ls).feeder ≡ f.feeder
draws_up f [] idle up = refl
draws_up f (l ∷ ls) idle up = by_card (card_of l)
    (λ (c : Card). draws_up (record (prints f (end_line c.serial false)) { feeder = f.feeder; left = ls; taken = f.taken + 1 }) ls idle up)
  where
    by_card : (o : Option Card) → ((c : Card) → (draws (record (prints f (end_line c.serial false)) { feeder = f.feeder; left = ls; taken = f.taken + 1 }) ls).feeder ≡ f.feeder)
        → (drawn f l ls (λ g. draws g ls) o).feeder ≡ f.feeder
    by_card None rest = refl
    by_card (Some c) rest = subst (λ (d : Inserted). (put_in f c ls (λ g. draws g ls) d.0 d.1).feeder ≡ f.feeder) (sym (inserted_up f.feeder f.batch c.serial idle up)) (rest c)

-- ---- a boot with enough numbers

first_in : (f : Feed) (l : List ℕ) (ls : List (List ℕ)) (o : Option Card) (more : List Card) → f.feeder.stand ≡ Idle → nat_lt 8000000 f.feeder.place ≡ false → (drawn f l ls (λ g. draws g ls) o).feeder.stand ≡ Idle
    → card_before o more ≡ []
first_in f l ls None more idle has after = refl
first_in f l ls (Some c) more idle has after =
    let asks : Asks (Job (request.Open f.batch c.serial)) ≡ Idle =
    subst (λ (d : Inserted). (put_in f c ls (λ g. draws g ls) d.0 d.1).feeder.stand ≡ Idle) (inserted_in f.feeder f.batch c.serial idle has) after in cc

none_left : (f : Feed) (ls : List (List ℕ)) → f.feeder.stand ≡ Idle → nat_lt 8000000 f.feeder.place ≡ false → (draws f ls).feeder.stand ≡ Idle → cards_in ls ≡ []
none_left f [] idle has after = refl
none_left f (l ∷ ls) idle has after = first_in f l ls (card_of l) (cards_in ls) idle has after

idle_by : (f : Feed) (s : Stand) → f.feeder.stand ≡ s → (goes_on f s).feeder.stand ≡ Idle → cards_in f.left ≡ left_out (inserted_by f.feeder s f.batch 0).1 (cards_in f.left)
idle_by f Idle is after =
    cond_both {A = Inserted} (nat_lt 8000000 f.feeder.place) (f.feeder, Err Exhausted) (moved f.feeder (Makes (Job (request.Open f.batch 0))), Ok tt) (λ d. cards_in f.left ≡ left_out d.1 (cards_in f.left))
    (λ up. refl) (λ has. none_left f f.left is has after)
idle_by f (Asks call) is after = let never : Asks call ≡ Idle = sym is ∙ after in cc
idle_by f (HasCommand s k) is after = let never : HasCommand s k ≡ Idle = sym is ∙ after in cc
idle_by f Stale is after = let never : Stale ≡ Idle = sym is ∙ after in cc

-- If the feeder is still idle after the remaining lines, none of their cards could be inserted.
pub idle_after : (f : Feed) → (settled f).feeder.stand ≡ Idle → cards_in f.left ≡ without_numbers f
idle_after f after = idle_by f f.feeder.stand refl after

other_by : (f : Feed) (s : Stand) → f.feeder.stand ≡ s → ((goes_on f s).feeder.stand ≡ Idle → ⊥) → [] ≡ left_out (inserted_by f.feeder s f.batch 0).1 (cards_in f.left)
other_by f Idle is other =
    cond_both {A = Inserted} (nat_lt 8000000 f.feeder.place) (f.feeder, Err Exhausted) (moved f.feeder (Makes (Job (request.Open f.batch 0))), Ok tt) (λ d. [] ≡ left_out d.1 (cards_in f.left))
    (λ up. absurd (other (ap (λ (g : FeederState). g.stand) (draws_up f f.left is up) ∙ is))) (λ has. refl)
other_by f (Asks call) is other = refl
other_by f (HasCommand s k) is other = refl
other_by f Stale is other = refl

pub other_after : (f : Feed) → ((settled f).feeder.stand ≡ Idle → ⊥) → [] ≡ without_numbers f
other_after f other = other_by f f.feeder.stand refl other

-- ---- independence of the output

worded_text : (x y : Feed) (act : Act) → y ≡ record x { text = y.text } → worded y act ≡ record (worded x act) { text = (worded y act).text }
worded_text x y (Eject good) same = ap (λ (z : Feed). record z { text = (puts_out y good).text }) same
worded_text x y (Apply command) same = same
worded_text x y Send same = same
worded_text x y Wait same = same

acts_text : (f : Feed) (t : List ℕ) (g : FeederState) (act : Act) → acts_by (record f { text = t }) (g, act) ≡ record (acts_by f (g, act)) { text = (acts_by (record f { text = t }) (g, act)).text }
acts_text f t g (Apply command) = worded_text _ _ (after_card g (next_word f.card)).1 refl
acts_text f t g (Eject good) = refl
acts_text f t g Send = refl
acts_text f t g Wait = refl

by_text : (f : Feed) (t : List ℕ) (number : ℕ) (o : Option Reply) → by_reply (record f { text = t }) number o ≡ record (by_reply f number o) { text = (by_reply (record f { text = t }) number o).text }
by_text f t number None = refl
by_text f t number (Some reply) = let d = after_reply f.feeder number reply in acts_text f t d.0 d.1

pub without_same : (f : Feed) (t : List ℕ) (number : ℕ) (o : Option Reply) → without_numbers (by_reply (record f { text = t }) number o) ≡ without_numbers (by_reply f number o)
without_same f t number o = ap without_numbers (by_text f t number o)
