-- After each try, no command is waiting for its card.
use Rattle.std.proofs.Common.{◌≡◌, ◌+◌, ℕ, false, List, [], ◌∷◌, Option, Some, None, Result, Ok, Err, refl, sym, subst}
use Rattle.std.specs.Prelude.{nat_le, nat_lt, ⊤}
use Rattle.std.proofs.lemmas.Bool.{cond_both}
use Rattle.job_facts.specs.declared.reply.Reply.{Reply}
use Rattle.job_facts.specs.declared.reply.Reply.TheVariants as reply
use Rattle.job_facts.specs.declared.request.Call.{Call}
use Rattle.job_facts.specs.declared.request.Call.TheVariants.{Job, Release}
use Rattle.job_facts.specs.declared.request.Request.TheVariants as request
use Rattle.feeder.specs.declared.feeder.InsertFault.{InsertFault}
use Rattle.feeder.specs.declared.feeder.InsertFault.TheVariants.{Exhausted}
use Rattle.feeder.specs.declared.feeder.Stand.{Stand}
use Rattle.feeder.specs.declared.feeder.Stand.TheVariants.{Idle, Asks, HasCommand, Stale}
use Rattle.feeder.specs.Table.{Act, Apply, Becomes, Done, Eject, FeederState, Makes, Move, Row, Send, Stays, Wait, answer_row, asked, card_row, command_row, done, heard_by, inserted_by, is_answerable, moved, no_row, open_row, release_row, reply_row, reset_row}
use Rattle.feeding.specs.Cards.{Card, card_of, end_line}
use Rattle.feeding.specs.Feeds.{Feed, acts, acts_by, by_reply, drawn, draws, goes_on, hears, prints, put_in, tried, worded}
use Rattle.feeding.specs.Tries.{IsSettled, IsSettledAt}

abbrev pub NoCommand : Stand → Type 0
NoCommand Idle = ⊤
NoCommand (Asks call) = ⊤
NoCommand (HasCommand session index) = ⊥
NoCommand Stale = ⊤

abbrev QuietMove : Move → Type 0
QuietMove Stays = ⊤
QuietMove (Becomes stand) = NoCommand stand
QuietMove (Makes call) = ⊤

-- only a row with the action `Apply` leads to a state with a command
abbrev QuietBy : Move → Act → Type 0
QuietBy move (Apply command) = ⊤
QuietBy move (Eject good) = QuietMove move
QuietBy move Send = QuietMove move
QuietBy move Wait = QuietMove move

abbrev IsQuiet : Row → Type 0
IsQuiet row = QuietBy row.move row.act

-- ---- rows

command_quiet : (s k : ℕ) (command : List ℕ) → IsQuiet (command_row s k command)
command_quiet s k command =
    cond_both {A = Row} (is_answerable s k) (record { move = Becomes (HasCommand s k); act = Apply command }) no_row IsQuiet (λ can. tt) (λ cannot. tt)

release_quiet : (r : Reply) → IsQuiet (release_row r)
release_quiet (reply.Product p made) = tt
release_quiet _ = tt

reset_quiet : (r : Reply) → IsQuiet (reset_row r)
reset_quiet (reply.Product p made) = tt
reset_quiet _ = tt

open_quiet : (r : Reply) → IsQuiet (open_row r)
open_quiet (reply.Opened b blank command rec s) = command_quiet s 0 command
open_quiet _ = tt

answer_quiet : (r : Reply) → IsQuiet (answer_row r)
answer_quiet (reply.Next command k s) = command_quiet s k command
answer_quiet _ = tt

row_quiet : (call : Call) (r : Reply) → IsQuiet (reply_row call r)
row_quiet (Release upto) r = release_quiet r
row_quiet (Job request.Reset) r = reset_quiet r
row_quiet (Job (request.Open b blank)) r = open_quiet r
row_quiet (Job (request.Answer s k sw)) r = answer_quiet r
row_quiet _ r = tt

move_quiet : (f : FeederState) (move : Move) → NoCommand f.stand → QuietMove move → NoCommand (moved f move).stand
move_quiet f Stays was quiet = was
move_quiet f (Becomes stand) was quiet = quiet
move_quiet f (Makes call) was quiet = tt

-- After a status word of the card, no command is waiting.
word_quiet : (f : FeederState) (stand : Stand) (sw : ℕ) → f.stand ≡ stand → NoCommand (moved f (card_row f.place stand sw).move).stand
word_quiet f Idle sw is = subst NoCommand (sym is) tt
word_quiet f (Asks call) sw is = subst NoCommand (sym is) tt
word_quiet f Stale sw is = subst NoCommand (sym is) tt
word_quiet f (HasCommand s k) sw is =
    cond_both {A = Row} (nat_le 9999999 f.place) (record { move = Becomes Idle; act = Eject false }) (record { move = Makes (Job (request.Answer s k sw)); act = Send })
    (λ row. NoCommand (moved f row.move).stand) (λ last. tt) (λ more. tt)

-- ---- a reply

worded_quiet : (f : Feed) (act : Act) → NoCommand f.feeder.stand → NoCommand (worded f act).feeder.stand
worded_quiet f (Apply command) was = was
worded_quiet f _ was = was

acts_quiet : (f : Feed) (move : Move) (act : Act) → NoCommand f.feeder.stand → QuietBy move act → NoCommand (acts (record f { feeder = moved f.feeder move }) act).feeder.stand
acts_quiet f move (Eject good) was quiet = move_quiet f.feeder move was quiet
acts_quiet f move Send was quiet = move_quiet f.feeder move was quiet
acts_quiet f move Wait was quiet = move_quiet f.feeder move was quiet
acts_quiet f move (Apply command) was quiet = let g = moved f.feeder move in worded_quiet _ _ (word_quiet g g.stand _ refl)

row_goes : (f : Feed) (row : Row) → NoCommand f.feeder.stand → IsQuiet row → NoCommand (acts_by f (done f.feeder row)).feeder.stand
row_goes f row was quiet = acts_quiet f row.move row.act was quiet

heard_quiet : (f : Feed) (ask : Option (ℕ × Call)) (n : ℕ) (r : Reply) → NoCommand f.feeder.stand → NoCommand (acts_by f (heard_by f.feeder ask n r)).feeder.stand
heard_quiet f None n r was = row_goes f no_row was tt
heard_quiet f (Some ask) n r was =
    cond_both {A = Done} _ (done f.feeder (reply_row ask.1 r)) (done f.feeder no_row) (λ d. NoCommand (acts_by f d).feeder.stand)
    (λ same. row_goes f (reply_row ask.1 r) was (row_quiet ask.1 r)) (λ other. row_goes f no_row was tt)

by_quiet : (f : Feed) (n : ℕ) (o : Option Reply) → NoCommand f.feeder.stand → NoCommand (by_reply f n o).feeder.stand
by_quiet f n None was = was
by_quiet f n (Some r) was = heard_quiet f (asked f.feeder) n r was

-- ---- the next card

put_settled : (f : Feed) (c : Card) (ls : List (List ℕ)) (next : Feed → Feed) → ((g : Feed) → g.feeder.stand ≡ Idle → IsSettled (next g)) → f.feeder.stand ≡ Idle
    → IsSettled (put_in f c ls next (inserted_by f.feeder Idle f.batch c.serial).0 (inserted_by f.feeder Idle f.batch c.serial).1)
put_settled f c ls next h idle =
    cond_both {A = FeederState × Result (Unit {0}) InsertFault} (nat_lt 8000000 f.feeder.place) (f.feeder, Err Exhausted)
    (moved f.feeder (Makes (Job (request.Open f.batch c.serial))), Ok tt) (λ d. IsSettled (put_in f c ls next d.0 d.1))
    (λ last. h (record (prints f (end_line c.serial false)) { feeder = f.feeder; left = ls; taken = f.taken + 1 }) idle) (λ more. tt)

drawn_settled : (f : Feed) (l : List ℕ) (ls : List (List ℕ)) (next : Feed → Feed) (o : Option Card) → card_of l ≡ o → ((g : Feed) → g.feeder.stand ≡ Idle → IsSettled (next g))
    → f.feeder.stand ≡ Idle → IsSettled (drawn f l ls next o)
drawn_settled f l ls next None none h idle = subst (IsSettledAt (l ∷ ls)) (sym idle) none
drawn_settled f l ls next (Some c) is h idle =
    subst (λ stand. IsSettled (put_in f c ls next (inserted_by f.feeder stand f.batch c.serial).0 (inserted_by f.feeder stand f.batch c.serial).1)) (sym idle) (put_settled f c ls next h idle)

draws_settled : (f : Feed) (ls : List (List ℕ)) → f.feeder.stand ≡ Idle → IsSettled (draws f ls)
draws_settled f [] idle = subst (IsSettledAt []) (sym idle) tt
draws_settled f (l ∷ ls) idle = drawn_settled f l ls (λ g. draws g ls) (card_of l) refl (λ g e. draws_settled g ls e) idle

goes_settled : (f : Feed) (stand : Stand) → f.feeder.stand ≡ stand → NoCommand stand → IsSettled (goes_on f stand)
goes_settled f Idle is quiet = draws_settled f f.left is
goes_settled f (Asks call) is quiet = subst (IsSettledAt f.left) (sym is) tt
goes_settled f (HasCommand s k) is quiet = absurd quiet
goes_settled f Stale is quiet = subst (IsSettledAt f.left) (sym is) tt

pub no_command : (ls : List (List ℕ)) (stand : Stand) → IsSettledAt ls stand → NoCommand stand
no_command ls Idle is = tt
no_command ls (Asks call) is = tt
no_command ls (HasCommand s k) is = is
no_command ls Stale is = tt

tried_settled : (f : Feed) (ask : Option (ℕ × Call)) (o : Option Reply) → IsSettled f → IsSettled (tried f ask o)
tried_settled f None o is = is
tried_settled f (Some ask) o is =
    let g = by_reply (record f { text = [] }) ask.0 o in goes_settled g g.feeder.stand refl (by_quiet (record f { text = [] }) ask.0 o (no_command f.left f.feeder.stand is))

-- Each try keeps `IsSettled` true.
pub hears_settled : (f : Feed) (o : Option Reply) → IsSettled f → IsSettled (hears f o)
hears_settled f o is = tried_settled f (asked f.feeder) o is
