-- Reads return the same result on facts that differ only in the order of their sets.
use Rattle.std.proofs.Common.{◌≡◌, ◌==◌, ◌&&◌, ◌||◌, ℕ, List, get_or, length, map, Option, Some, None, refl, sym, ap, ◌∙◌}
use Rattle.std.specs.Prelude.{bytes_eq, filter, find, option_and_then, option_map, slice_get, if◌then◌else◌}
use Rattle.std.specs.List.{list_all, list_any}
use Rattle.std.proofs.lemmas.List.Sorted.{length_permutation, list_any-IsPermutation}
use Rattle.store_data.specs.declared.row.Product.{Product}
use Rattle.store_data.specs.declared.row.Row.{Row}
use Rattle.store_data.specs.Groups.{first_appearances}
use Rattle.store_data.specs.Sequence.{plan_of}
use Rattle.job_facts.specs.declared.facts.Lot.{Lot}
use Rattle.job_facts.specs.Contents.{AreSameFacts}
use Rattle.job_facts.specs.Facts.{Batch, Facts, Session}
use Rattle.job_facts.specs.Sound.{IsSound}
use Rattle.job_facts.specs.States.{any_overlaps, batch_named, command_at, command_bytes, commands_for, commands_under, first_waiting, is_batch_finished, is_charged, is_closed, is_finished, is_in, is_record, is_running, is_waiting, lot_named, lot_of, numbered, overlaps}
use Rattle.job_facts.specs.States.{plan_for, product_named, record_state, record_state_of, records_named, records_of, records_under, rows_of, rows_of_record, rows_under, running_session, session_numbered, session_state, state_by, state_with, states_of}
use Rattle.step_laws.proofs.BlankSums.{apart_once, named_once}
use Rattle.step_laws.proofs.Permuted.{at_most_one, count_moved, find_moved}

module _ (f g : Facts) (sound : IsSound f) (same : AreSameFacts f g) where
  -- ---- look-ups by name

  pub products_alike : (n : List ℕ) → product_named f.products n ≡ product_named g.products n
  products_alike n =
      find_moved (λ (p : Product). bytes_eq p.code n) f.products g.products same.products
      (at_most_one (λ (p : Product). bytes_eq p.code n) f.products (named_once (λ (p : Product). p.code) f.products n sound.named.products.once))

  pub product_count_alike : length f.products ≡ length g.products
  product_count_alike = sym (length_permutation f.products g.products same.products)

  pub lots_alike : (n : List ℕ) → lot_named f.lots n ≡ lot_named g.lots n
  lots_alike n =
      find_moved (λ (l : Lot). bytes_eq l.name n) f.lots g.lots same.lots
      (at_most_one (λ (l : Lot). bytes_eq l.name n) f.lots (named_once (λ (l : Lot). l.name) f.lots n sound.named.lots.once))

  pub lot_count_alike : length f.lots ≡ length g.lots
  lot_count_alike = sym (length_permutation f.lots g.lots same.lots)

  pub lot_of_alike : (blank : ℕ) → lot_of f.lots blank ≡ lot_of g.lots blank
  lot_of_alike blank =
      find_moved (is_in blank) f.lots g.lots same.lots (at_most_one (is_in blank) f.lots
      (λ i j d before within. apart_once blank (get_or f.lots i d) (get_or f.lots j d) (sound.named.lots.apart i j d before within)))

  pub overlaps_alike : (first count : ℕ) → any_overlaps f.lots first count ≡ any_overlaps g.lots first count
  overlaps_alike first count = list_any-IsPermutation (overlaps first count) f.lots g.lots same.lots

  pub batches_alike : (b : List ℕ) → batch_named f.batches b ≡ batch_named g.batches b
  batches_alike b = ap (λ batches. batch_named batches b) same.batches

  pub closed_alike : (b : List ℕ) → is_closed f b ≡ is_closed g b
  closed_alike b = list_any-IsPermutation (bytes_eq b) f.closed g.closed same.closed

  pub charged_alike : (blank : ℕ) → is_charged f blank ≡ is_charged g blank
  charged_alike blank = λ i.
      list_any (λ (s : Session). s.blank == blank) (same.sessions i) || list_any-IsPermutation (λ b. b == blank) f.discarded g.discarded same.discarded i

  -- ---- plans and sessions

  pub rows_alike : (b : Batch) → rows_of f.products b ≡ rows_of g.products b
  unfolding rows_of
  rows_alike b = λ i. rows_under (products_alike b.product i) b.raw

  plan_alike : (b r : List ℕ) → plan_for f b r ≡ plan_for g b r
  unfolding plan_for
  plan_alike b r = λ i.
      option_and_then (λ (batch : Batch). option_map (λ (p : Product). plan_of p (rows_of_record (rows_alike batch i) r)) (products_alike batch.product i))
      (batches_alike b i)

  pub commands_alike : (b r : List ℕ) → commands_for f b r ≡ commands_for g b r
  commands_alike b r = ap commands_under (plan_alike b r)

  pub command_alike : (b r : List ℕ) (k : ℕ) → command_at f b r k ≡ command_at g b r k
  command_alike b r k = ap (λ commands. command_bytes (slice_get commands k)) (commands_alike b r)

  pub session_alike : (s : ℕ) → session_numbered f.sessions s ≡ session_numbered g.sessions s
  session_alike s = ap (λ sessions. session_numbered sessions s) same.sessions

  pub state_alike : (s : Session) → session_state f s ≡ session_state g s
  unfolding session_state
  state_alike s = ap (λ commands. state_with commands s) (commands_alike s.batch s.rec)

  pub running_alike : (machine : List ℕ) → running_session f machine ≡ running_session g machine
  unfolding running_session
  running_alike machine = λ i.
      option_map (λ (e : ℕ × Session). e.0)
      (find (λ (e : ℕ × Session). bytes_eq e.1.machine machine && is_running (state_alike e.1 i)) (numbered 1 (same.sessions i)))

  -- ---- records

  states_alike : (b r : List ℕ) → states_of f b r ≡ states_of g b r
  unfolding states_of
  states_alike b r = λ i. map (λ (s : Session). state_alike s i) (filter (λ (s : Session). bytes_eq s.batch b && bytes_eq s.rec r) (same.sessions i))

  pub record_alike : (b r : List ℕ) → record_state f b r ≡ record_state g b r
  unfolding record_state
  record_alike b r = λ i.
      state_by (states_alike b r i) (list_any-IsPermutation (is_record b r) f.withdrawn g.withdrawn same.withdrawn i)
      (count_moved (is_record b r) f.remakes g.remakes same.remakes i)

  names_under : (o : Option Batch) → records_under f.products o ≡ records_under g.products o
  unfolding records_of
  names_under None = refl
  names_under (Some b) = λ i. first_appearances (map (λ (row : Row). row.rec) (rows_alike b i))

  pub names_alike : (b : List ℕ) → records_named f b ≡ records_named g b
  names_alike b = names_under (batch_named f.batches b) ∙ ap (records_under g.products) (batches_alike b)

  pub waiting_alike : (b : List ℕ) → first_waiting f b ≡ first_waiting g b
  unfolding first_waiting
  waiting_alike b = λ i. find (λ r. is_waiting (record_alike b r i)) (names_alike b i)

  pub finished_alike : (b : List ℕ) → is_batch_finished f b ≡ is_batch_finished g b
  unfolding is_batch_finished
  finished_alike b = λ i. list_all (λ r. is_finished (record_alike b r i)) (names_alike b i)

  pub stands_alike : (b r : List ℕ) → record_state_of f b r ≡ record_state_of g b r
  unfolding record_state_of
  stands_alike b r = λ i. if list_any (bytes_eq r) (names_alike b i) then Some (record_alike b r i) else None
