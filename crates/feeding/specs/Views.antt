-- The values of the code as values of the definitions.
use Rattle.std.specs.Prelude.{◌≡◌, ℕ, List, Option, Some, map, drop, option_map}
use Rattle.job_facts.specs.declared.reply.Reply.{Reply}
use Rattle.job_facts.specs.declared.request.Call.{Call}
use Rattle.feeder.specs.Table.{asked}
use Rattle.feeding.specs.declared.card.Card.{Card as CardValue}
use Rattle.feeding.specs.declared.engine.Response.{Response}
use Rattle.feeding.specs.declared.feed.Feed.{Feed as FeedValue}
use Rattle.feeding.specs.declared.feed.Rejected.{Rejected}
use Rattle.feeding.specs.Cards.{Card}
use Rattle.feeding.specs.Events.{cards_in, rejection, without_numbers}
use Rattle.feeding.specs.Feeds.{Feed, by_reply}

abbrev pub card_view : CardValue → Card
card_view c = record { serial = c.serial; words = c.words.items; given = c.given }

abbrev pub feed_view : FeedValue → Feed
feed_view f = record {
  feeder = f.feeder;
  batch = f.batch;
  card = card_view f.card;
  left = map (λ l. l.now) (drop f.at f.lines.now);
  taken = f.at;
  tries = f.tries;
  text = f.text.items;
}

-- a request with the number `number` is pending
abbrev pub AsksUnder : ℕ → Feed → Type 0
AsksUnder number f = (call : Call) × (asked f.feeder ≡ Some (number, call))

-- `out` has the cards that are rejected after a try with this number and reply
abbrev pub IsRejected : Feed → ℕ → Option Reply → Rejected → Type 0
IsRejected f number reply out = (out.card ≡ rejection f number reply) × (cards_in (map (λ l. l.now) out.lines.now) ≡ without_numbers (by_reply f number reply))

-- the received bytes, if any
abbrev pub came_in : Response → Option (List ℕ)
came_in r = option_map (λ v. v.items) r.came
