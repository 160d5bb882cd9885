-- The contents and the state of a store of lists.
use Rattle.std.specs.Prelude.{◌≡◌, Some}
use Rattle.job_facts.specs.Contents.{AreSound, Contents}
use Rattle.job_facts.specs.Store.{State}
use Rattle.list_store.specs.declared.store.ListStore.{ListStore}

-- the contents of the store `s`
abbrev pub contents : ListStore → Contents
contents s = record { facts = s.facts; kept = s.kept.items; marks = s.marks.items }

-- The state of a store with the contents `c`. It has no device, so it counts no faults, and an open
-- after a crash finds exactly `c`. It keeps no request log.
abbrev pub state_of : Contents → State
state_of c = record {
  holds = λ d. (c ≡ d) × AreSound d;
  doubts = 0;
  failed = 0;
  full = 0;
  may_leave = λ d. d ≡ Some c;
  log = λ l. ⊥;
}

abbrev pub state : ListStore → State
state s = state_of (contents s)
