-- The counters of the blanks of a product, from their parts.
use Rattle.std.proofs.Common.{◌≡◌, ℕ, List, length, map}
use Rattle.std.specs.Prelude.{count_by, filter, sum_by}
use Rattle.job_facts.specs.declared.facts.Lot.{Lot}
use Rattle.job_facts.specs.declared.facts.SessionState.{SessionState}
use Rattle.job_facts.specs.declared.rows.BlankTotals.{BlankTotals}
use Rattle.job_facts.specs.Accounts.{blank_states, blank_totals, is_blank_of, is_lot_of}
use Rattle.job_facts.specs.Facts.{Facts, Session}
use Rattle.job_facts.specs.States.{is_good, is_running, is_spoiled, lot_of, session_state}
use Rattle.list_store.specs.Sessions.{lots_for}

module _ (f : Facts) (p : List ℕ) where
  pub blank_totals_of : (states : List SessionState) (lots total good running spoiled discarded : ℕ)
      → states ≡ map (session_state f) (filter (λ (s : Session). is_blank_of f p s.blank) f.sessions)
      → lots ≡ length (lots_for f.lots p) → total ≡ sum_by (λ (l : Lot). l.count) (lots_for f.lots p)
      → good ≡ count_by is_good states → running ≡ count_by is_running states → spoiled ≡ count_by is_spoiled states
      → discarded ≡ count_by (λ blank. is_lot_of p (lot_of f.lots blank)) f.discarded
      → ◌≡◌ {A = BlankTotals} (record { lots = lots; total = total; good = good; running = running; spoiled = spoiled; discarded = discarded }) (blank_totals f p)
  unfolding blank_totals blank_states
  blank_totals_of states lots total good running spoiled discarded states_is lots_is total_is good_is running_is spoiled_is discarded_is = cc
