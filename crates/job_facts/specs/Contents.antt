-- The contents of a store: the facts, the kept replies, and the release marks of the clients.
use Rattle.std.specs.Prelude.{◌≡◌, ◌⊎◌, ◌≤◌, ◌<◌, ◌^◌, ◌==◌, ◌&&◌, ℕ, List, [], ◌∷◌, ◌++◌, All, AllPairs, Bool, false, not, nat_lt, filter, IsPermutation, bytes_eq, find, Option, None, option_map, unwrap_or, IsTrue}
use Rattle.job_facts.specs.declared.change.Change.{Change}
use Rattle.job_facts.specs.declared.rows.KeptReply.{KeptReply}
use Rattle.job_facts.specs.Facts.{Facts, no_facts}
use Rattle.job_facts.specs.Sound.{IsName, IsSound, IsSoundChange, changed}

-- a kept reply, with its client, its request number, and the request bytes
pub record Entry : Type 0 where
  pub client : List ℕ
  pub number : ℕ
  pub ask : List ℕ
  pub status : ℕ
  pub body : List ℕ

-- the release mark of a client; a client that has released nothing has no mark
pub record Mark : Type 0 where
  pub client : List ℕ
  pub upto : ℕ

-- the contents of a store
pub record Contents : Type 0 where
  pub facts : Facts
  -- the kept replies, oldest first
  pub kept : List Entry
  pub marks : List Mark

abbrev pub no_contents : Contents
no_contents = record { facts = no_facts; kept = []; marks = [] }

-- ---- kept replies

-- the kept reply of `client` with the request number `number`, if there is one
abbrev pub entry_of : List Entry → List ℕ → ℕ → Option Entry
entry_of kept client number = find (λ (e : Entry). bytes_eq e.client client && (e.number == number)) kept

-- the kept reply `e`, as a store returns it
abbrev pub reply_of_entry : Entry → KeptReply
reply_of_entry e = record { ask = e.ask; status = e.status; body = e.body }

-- `d` and `e` have the same client and request number.
abbrev pub is_of_number : Entry → Entry → Bool
is_of_number d e = bytes_eq d.client e.client && (d.number == e.number)

-- ---- release marks

abbrev pub has_mark : List ℕ → Mark → Bool
has_mark client m = bytes_eq m.client client

-- the release mark of `client`, or 0 if it has released nothing
abbrev pub mark_of : List Mark → List ℕ → ℕ
mark_of marks client = unwrap_or (option_map (λ (m : Mark). m.upto) (find (has_mark client) marks)) 0

-- `marks` after the release mark of `client` is set to `upto`
abbrev pub with_mark : List Mark → List ℕ → ℕ → List Mark
with_mark marks client upto = filter (λ (m : Mark). not (has_mark client m)) marks ++ record { client = client; upto = upto } ∷ []

-- The request number of `e` is above the release mark of its client.
abbrev pub is_above : List Mark → Entry → Bool
is_above marks e = nat_lt (mark_of marks e.client) e.number

-- the kept replies whose numbers aren't released
abbrev pub above : List Mark → List Entry → List Entry
above marks kept = filter (is_above marks) kept

-- ---- sound contents

-- The client and the request number are in their ranges. The status is the one of an accepted
-- request or of a refusal.
pub record IsEntry (e : Entry) : Type 0 where
  pub client : IsName e.client
  pub least : 1 ≤ e.number
  pub most : e.number < 10 ^ 18
  pub status : (e.status ≡ 200) ⊎ (e.status ≡ 409)

-- The client and the release mark are in their ranges.
pub record IsMark (m : Mark) : Type 0 where
  pub client : IsName m.client
  pub least : 1 ≤ m.upto
  pub most : m.upto < 10 ^ 18

-- The contents `c` are sound: their facts are sound, a request number has at most one kept reply
-- and a client at most one release mark, and no reply is kept under a released number.
pub record AreSound (c : Contents) : Type 0 where
  pub facts : IsSound c.facts
  pub kept : All IsEntry c.kept
  pub kept_once : AllPairs (λ (d e : Entry). is_of_number d e ≡ false) c.kept
  pub marks : All IsMark c.marks
  pub marked_once : AllPairs (λ (m n : Mark). bytes_eq m.client n.client ≡ false) c.marks
  -- No reply is kept under a released number.
  pub above : All (λ (e : Entry). IsTrue (is_above c.marks e)) c.kept

-- ---- the same contents: sets and maps may be in any order

pub record AreSameFacts (f g : Facts) : Type 0 where
  pub products : IsPermutation f.products g.products
  pub lots : IsPermutation f.lots g.lots
  pub batches : f.batches ≡ g.batches
  pub sessions : f.sessions ≡ g.sessions
  pub discarded : IsPermutation f.discarded g.discarded
  pub remakes : IsPermutation f.remakes g.remakes
  pub withdrawn : IsPermutation f.withdrawn g.withdrawn
  pub closed : IsPermutation f.closed g.closed

pub record AreSame (c d : Contents) : Type 0 where
  pub facts : AreSameFacts c.facts d.facts
  pub kept : IsPermutation c.kept d.kept
  pub marks : IsPermutation c.marks d.marks

-- ---- the next contents

-- the contents after `change`, with the kept reply `entry` of its request
abbrev pub committed : Contents → Change → Entry → Contents
committed c change entry = record { facts = changed c.facts change; kept = c.kept ++ entry ∷ []; marks = c.marks }

-- the contents after the release mark of the client of `entry` is set to `upto`, with the kept
-- reply `entry` of the release
abbrev pub released : Contents → ℕ → Entry → Contents
released c upto entry =
    let marks = with_mark c.marks entry.client upto in
    record { facts = c.facts; kept = above marks (c.kept ++ entry ∷ []); marks = marks }

-- ---- preconditions of the calls that write

-- `entry` is in its ranges, and its request number is neither used nor released.
pub record IsNewEntry (entry : Entry) (c : Contents) : Type 0 where
  pub first : entry_of c.kept entry.client entry.number ≡ None
  pub live : mark_of c.marks entry.client < entry.number
  pub ranged : IsEntry entry

-- `change` and `entry` may be committed to `c`: the request number is new, and the facts are sound
-- after the change.
pub record IsOwed (change : Change) (entry : Entry) (c : Contents) : Type 0 where
  pub is_new : IsNewEntry entry c
  pub keeps : IsSoundChange c.facts change

-- A release up to `upto` with the kept reply `entry` may be stored in `c`: the request number is
-- new and above `upto`, and the release mark doesn't decrease.
pub record IsOwedRelease (upto : ℕ) (entry : Entry) (c : Contents) : Type 0 where
  pub is_new : IsNewEntry entry c
  pub near : upto < entry.number
  pub grows : mark_of c.marks entry.client ≤ upto
  pub least : 1 ≤ upto
