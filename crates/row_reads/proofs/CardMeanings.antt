-- The parsed queries of the statements in CardTexts.antt.
use Rattle.std.proofs.Common.{List, ℕ, true, false, [], ◌∷◌, codes, refl}
use Rattle.sqlite.specs.Listing.{understood}
use Rattle.sqlite.specs.Term.{col}
use Rattle.sqlite_tied.specs.Compute.{everything}
use Rattle.row_reads.specs.CardTexts.{by_batch, by_batch_and_name, by_batch_and_place, by_good_batch, by_id, by_running_machine, by_segment, by_waiting_batch, coded_columns, coded_text, good_columns, good_text, grouping_count_text, groupings_text, last_session_text}
use Rattle.row_reads.specs.CardTexts.{limit_one, more_grouping_columns, more_record_columns, no_limit, record_at_text, record_columns, record_named_text, records_text, running_columns, running_text, session_columns, session_text, waiting_text}
use Rattle.row_reads.specs.NameTexts.{by_two_columns}
use Rattle.row_reads.proofs.Asking.{Asks}
use Rattle.row_reads.proofs.Sorting.{AsksSorted}

pub session_asks : Asks session_text 12 by_id session_columns
unfolding understood everything
session_asks = record {
  names = codes "machine" ∷ codes "batch" ∷ codes "place" ∷ codes "state" ∷ codes "words" ∷ codes "app" ∷ codes "segment" ∷ codes "at_offset" ∷ codes "block" ∷ [];
  is = refl;
  plain = (refl, refl);
  unlisted = refl;
}

pub running_asks : Asks running_text 12 by_running_machine running_columns
unfolding understood everything
running_asks = record { names = codes "id" ∷ []; is = refl; plain = (refl, refl); unlisted = refl }

abbrev record_names : List (List ℕ)
record_names = codes "place" ∷ codes "name" ∷ codes "state" ∷ codes "spoiled" ∷ codes "remakes" ∷ []

pub record_named_asks : Asks record_named_text 7 by_batch_and_name record_columns
unfolding understood everything
record_named_asks = record { names = record_names; is = refl; plain = (refl, refl); unlisted = refl }

pub record_at_asks : Asks record_at_text 7 by_two_columns record_columns
unfolding understood everything
record_at_asks = record { names = record_names; is = refl; plain = (refl, refl); unlisted = refl }

pub last_session_asks : AsksSorted true limit_one last_session_text 12 [] (col 1 0) []
unfolding understood everything
last_session_asks = record { names = codes "id" ∷ []; is = refl; plain = (refl, refl); unlisted = refl }

pub good_asks : Asks good_text 12 by_good_batch good_columns
unfolding understood everything
good_asks = record { names = codes "place" ∷ codes "serial" ∷ []; is = refl; plain = (refl, refl); unlisted = refl }

pub records_asks : AsksSorted false no_limit records_text 7 by_batch (col 1 2) more_record_columns
unfolding understood everything
records_asks = record { names = record_names; is = refl; plain = (refl, refl); unlisted = refl }

pub waiting_asks : AsksSorted false limit_one waiting_text 7 by_waiting_batch (col 1 2) more_record_columns
unfolding understood everything
waiting_asks = record { names = record_names; is = refl; plain = (refl, refl); unlisted = refl }

pub groupings_asks : AsksSorted false no_limit groupings_text 10 by_batch_and_place (col 1 2) more_grouping_columns
unfolding understood everything
groupings_asks = record { names = codes "line" ∷ codes "aid" ∷ codes "rank" ∷ codes "enc" ∷ codes "tol" ∷ []; is = refl; plain = (refl, refl); unlisted = refl }

pub coded_asks : AsksSorted false no_limit coded_text 10 by_segment (col 1 2) coded_columns
unfolding understood everything
coded_asks = record { names = codes "line" ∷ codes "coded" ∷ []; is = refl; plain = (refl, refl); unlisted = refl }

pub grouping_count_asks : Asks grouping_count_text 10 by_batch (col 1 2 ∷ [])
unfolding understood everything
grouping_count_asks = record { names = codes "line" ∷ []; is = refl; plain = (refl, refl); unlisted = refl }
