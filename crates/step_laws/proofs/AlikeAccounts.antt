-- Facts that differ only in the order of their sets have equal accounts.
use Rattle.std.proofs.Common.{◌≡◌, ◌&&◌, ℕ, List, length, map, sym, ◌∙◌}
use Rattle.std.specs.Prelude.{bytes_eq, count_by, filter, find, option_map}
use Rattle.std.proofs.lemmas.List.Sorted.{length_permutation, sum_by-IsPermutation}
use Rattle.job_facts.specs.declared.facts.Lot.{Lot}
use Rattle.job_facts.specs.declared.facts.SessionState.TheVariants as session
use Rattle.job_facts.specs.Accounts.{batch_totals, blank_states, blank_totals, count_sessions, is_blank_of, is_lot_of, lots_of, record_lines, record_states, session_states, totals_by}
use Rattle.job_facts.specs.Contents.{AreSameFacts}
use Rattle.job_facts.specs.Facts.{Facts, Session}
use Rattle.job_facts.specs.Sound.{IsSound}
use Rattle.job_facts.specs.States.{is_good}
use Rattle.step_laws.specs.Alike.{HaveSameAccounts}
use Rattle.step_laws.proofs.AlikeReads as reads
use Rattle.step_laws.proofs.Permuted.{IsPermutation-filter, count_moved}

module _ (f g : Facts) (sound : IsSound f) (same : AreSameFacts f g) where
  records_alike : (b : List ℕ) → record_states f b ≡ record_states g b
  unfolding record_states
  records_alike b = λ i. map (λ r. reads.record_alike f g sound same b r i) (reads.names_alike f g sound same b i)

  sessions_alike : (b : List ℕ) → session_states f b ≡ session_states g b
  unfolding session_states
  sessions_alike b = λ i. map (λ s. reads.state_alike f g sound same s i) (filter (λ (s : Session). bytes_eq s.batch b) (same.sessions i))

  batch_alike : (b : List ℕ) → batch_totals f b ≡ batch_totals g b
  unfolding batch_totals
  batch_alike b = λ i. totals_by (records_alike b i) (sessions_alike b i)

  lines_alike : (b : List ℕ) → record_lines f b ≡ record_lines g b
  unfolding record_lines
  lines_alike b = λ i. map (λ r. record {
    rec = r;
    stands = reads.record_alike f g sound same b r i;
    sessions = length (filter (λ (s : Session). bytes_eq s.batch b && bytes_eq s.rec r) (same.sessions i));
    blank = option_map (λ (s : Session). s.blank) (find (λ s. is_good (reads.state_alike f g sound same s i)) (filter (λ (s : Session). bytes_eq s.batch b && bytes_eq s.rec r) (same.sessions i)));
  }) (reads.names_alike f g sound same b i)

  blank_states_alike : (p : List ℕ) → blank_states f p ≡ blank_states g p
  unfolding blank_states
  blank_states_alike p = λ i. map (λ s. reads.state_alike f g sound same s i) (filter (λ (s : Session). is_lot_of p (reads.lot_of_alike f g sound same s.blank i)) (same.sessions i))

  discarded_alike : (p : List ℕ) → count_by (is_blank_of f p) f.discarded ≡ count_by (is_blank_of g p) g.discarded
  discarded_alike p =
      count_moved (is_blank_of f p) f.discarded g.discarded same.discarded
      ∙ (λ i. count_by (λ blank. is_lot_of p (reads.lot_of_alike f g sound same blank i)) g.discarded)

  blanks_alike : (p : List ℕ) → blank_totals f p ≡ blank_totals g p
  unfolding blank_totals
  blanks_alike p =
      let lots = IsPermutation-filter (λ (l : Lot). bytes_eq l.product p) f.lots g.lots same.lots in
      λ i. record {
        lots = sym (length_permutation (lots_of f p) (lots_of g p) lots) i;
        total = sym (sum_by-IsPermutation (λ (l : Lot). l.count) (lots_of f p) (lots_of g p) lots) i;
        good = count_sessions (blank_states_alike p i) session.Good;
        running = count_sessions (blank_states_alike p i) session.Running;
        spoiled = count_sessions (blank_states_alike p i) session.Spoiled;
        discarded = discarded_alike p i;
      }

  pub accounts_alike : HaveSameAccounts f g
  accounts_alike = record { batches = batch_alike; records = lines_alike; blanks = blanks_alike }
