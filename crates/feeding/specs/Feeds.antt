-- A feed (this project's profile): its state, the effect of the feeder's actions, and the output.
use Rattle.std.specs.Prelude.{ℕ, ◌+◌, ◌==◌, Bool, false, if◌then◌else◌, List, [], ◌∷◌, ◌++◌, Option, Some, None, Result, Ok, Err}
use Rattle.job_facts.specs.declared.reply.Reply.{Reply}
use Rattle.job_facts.specs.declared.request.Call.{Call}
use Rattle.feeder.specs.declared.feeder.InsertFault.{InsertFault}
use Rattle.feeder.specs.declared.feeder.Stand.{Stand}
use Rattle.feeder.specs.declared.feeder.Stand.TheVariants.{Idle, Asks, HasCommand, Stale}
use Rattle.feeder.specs.Table.{Act, Apply, Done, Eject, FeederState, Send, Wait, after_card, after_insert, after_reply, asked, started}
use Rattle.text_io.specs.Lines.{lines}
use Rattle.feeding.specs.Cards.{Card, applied_line, card_of, end_line, gives, new_card, next_word}

pub record Feed : Type 0 where
  pub feeder : FeederState
  pub batch : List ℕ
  -- the last inserted card
  pub card : Card
  -- the lines of the cards that weren't inserted yet
  pub left : List (List ℕ)
  -- the number of lines taken before these
  pub taken : ℕ
  -- the number of consecutive tries that changed nothing
  pub tries : ℕ
  -- the output of the last try
  pub text : List ℕ

-- a feed at its start, before a card is inserted
abbrev pub at_first : List ℕ → ℕ → List ℕ → List ℕ → Feed
at_first machine boot batch raw = record { feeder = started machine boot; batch = batch; card = new_card [] 0; left = lines raw; taken = 0; tries = 0; text = [] }

-- ---- actions

abbrev pub prints : Feed → List ℕ → Feed
prints f text = record f { text = f.text ++ text }

abbrev pub puts_out : Feed → Bool → Feed
puts_out f good = prints f (end_line f.card.serial good)

-- the action after the card returned a status word
abbrev pub worded : Feed → Act → Feed
worded f (Eject good) = puts_out f good
worded f (Apply command) = f
worded f Send = f
worded f Wait = f

-- the card receives a command and returns its next status word
abbrev pub applies : Feed → List ℕ → Feed
applies f command =
    let sw = next_word f.card in
    let done = after_card f.feeder sw in
    worded (record (prints f (applied_line f.card.serial command sw)) { card = gives f.card; feeder = done.0 }) done.1

abbrev pub acts : Feed → Act → Feed
acts f (Apply command) = applies f command
acts f (Eject good) = puts_out f good
acts f Send = f
acts f Wait = f

-- ---- the next card

-- card `c` is inserted; if the feeder refuses that, the card is rejected and the next one follows
abbrev pub put_in : Feed → Card → List (List ℕ) → (Feed → Feed) → FeederState → Result (Unit {0}) InsertFault → Feed
put_in f c ls next g (Ok done) = record f { feeder = g; card = c; left = ls; taken = f.taken + 1 }
put_in f c ls next g (Err why) = next (record (prints f (end_line c.serial false)) { feeder = g; left = ls; taken = f.taken + 1 })

abbrev pub drawn : Feed → List ℕ → List (List ℕ) → (Feed → Feed) → Option Card → Feed
drawn f l ls next None = record f { left = l ∷ ls }
drawn f l ls next (Some c) = let d = after_insert f.feeder f.batch c.serial in put_in f c ls next d.0 d.1

-- a card is taken from these lines, which may be rejected up to a malformed line
abbrev pub draws : Feed → List (List ℕ) → Feed
draws f [] = record f { left = [] }
draws f (l ∷ ls) = drawn f l ls (λ g. draws g ls) (card_of l)

-- the next card is taken if the feeder is idle
abbrev pub goes_on : Feed → Stand → Feed
goes_on f Idle = draws f f.left
goes_on f (Asks call) = f
goes_on f (HasCommand session index) = f
goes_on f Stale = f

-- ---- a try

abbrev pub is_asked : ℕ → Option (ℕ × Call) → Bool
is_asked number None = false
is_asked number (Some ask) = number == ask.0

-- a try had no effect if the same request number is still pending
abbrev pub counted : ℕ → Feed → Feed
counted number f = record f { tries = if is_asked number (asked f.feeder) then f.tries + 1 else 0 }

abbrev pub acts_by : Feed → Done → Feed
acts_by f done = acts (record f { feeder = done.0 }) done.1

abbrev pub by_reply : Feed → ℕ → Option Reply → Feed
by_reply f number None = f
by_reply f number (Some reply) = acts_by f (after_reply f.feeder number reply)

abbrev pub settled : Feed → Feed
settled f = goes_on f f.feeder.stand

abbrev pub tried : Feed → Option (ℕ × Call) → Option Reply → Feed
tried f None reply = f
tried f (Some ask) reply = counted ask.0 (settled (by_reply (record f { text = [] }) ask.0 reply))

-- the feed after a try, which brought `reply` if it brought one
abbrev pub hears : Feed → Option Reply → Feed
hears f reply = tried f (asked f.feeder) reply
