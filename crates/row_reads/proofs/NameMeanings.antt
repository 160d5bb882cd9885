-- The parsed queries of the statements in NameTexts.antt.
use Rattle.std.proofs.Common.{ℕ, List, [], ◌∷◌, codes, true, false, refl}
use Rattle.sqlite.specs.Listing.{understood}
use Rattle.sqlite.specs.Term.{col}
use Rattle.sqlite_tied.specs.Compute.{everything}
use Rattle.row_reads.specs.Texts.{by_first_column}
use Rattle.row_reads.specs.CardTexts.{limit_one}
use Rattle.row_reads.specs.NameTexts.{by_low_serial, last_lot_text, more_lot_columns, last_batch_text, batches_of_text, by_batch_product, charged_text, first_column, lot_names_text, products_text, lot_columns, lot_row_columns, lot_text, lots_of_text, lots_text, by_second_column}
use Rattle.row_reads.specs.NameTexts.{batch_has_text, batch_head_text, batch_by_name_text, id_columns, batch_id_text, batch_name_columns, batch_name_text, by_batch_name, by_bytes, by_id, by_id_in_order, by_two_columns, head_columns, kept_columns, kept_text, batch_at_columns}
use Rattle.row_reads.proofs.Asking.{Asks}
use Rattle.row_reads.proofs.Sorting.{AsksSorted}

pub kept_asks : Asks kept_text 19 by_two_columns kept_columns
unfolding understood everything
kept_asks = record { names = codes "ask" ∷ codes "status" ∷ codes "body" ∷ []; is = refl; plain = (refl, refl); unlisted = refl }

pub batch_id_asks : Asks batch_id_text 5 by_batch_name id_columns
unfolding understood everything
batch_id_asks = record { names = codes "id" ∷ []; is = refl; plain = (refl, refl); unlisted = refl }

pub batch_name_asks : AsksSorted false limit_one batch_name_text 5 by_id_in_order (col 1 0) batch_name_columns
unfolding understood everything
batch_name_asks = record { names = codes "id" ∷ codes "name" ∷ []; is = refl; plain = (refl, refl); unlisted = refl }

abbrev head_names : List (List ℕ)
head_names =
    codes "id" ∷ codes "product" ∷ codes "closed" ∷ codes "waiting" ∷ codes "running" ∷ codes "failed" ∷ codes "withdrawn" ∷ codes "good" ∷ codes "sessions" ∷ codes "spoiled" ∷ []

pub batch_head_asks : Asks batch_head_text 5 by_batch_name head_columns
unfolding understood everything
batch_head_asks = record { names = head_names; is = refl; plain = (refl, refl); unlisted = refl }

pub batch_by_name_asks : Asks batch_by_name_text 5 by_batch_name batch_at_columns
unfolding understood everything
batch_by_name_asks = record { names = codes "id" ∷ codes "product" ∷ codes "closed" ∷ []; is = refl; plain = (refl, refl); unlisted = refl }

pub batch_has_asks : Asks batch_has_text 5 by_bytes id_columns
unfolding understood everything
batch_has_asks = record { names = codes "id" ∷ []; is = refl; plain = (refl, refl); unlisted = refl }

pub lot_asks : Asks lot_text 3 by_first_column lot_row_columns
unfolding understood everything
lot_asks = record { names = codes "low_serial" ∷ codes "amount" ∷ codes "name" ∷ codes "product" ∷ codes "discarded" ∷ []; is = refl; plain = (refl, refl); unlisted = refl }

pub lots_asks : Asks lots_text 3 [] lot_columns
unfolding understood everything
lots_asks = record { names = codes "low_serial" ∷ codes "amount" ∷ codes "name" ∷ codes "product" ∷ []; is = refl; plain = (refl, refl); unlisted = refl }

pub lots_of_asks : Asks lots_of_text 3 by_second_column lot_row_columns
unfolding understood everything
lots_of_asks = record { names = codes "low_serial" ∷ codes "amount" ∷ codes "name" ∷ codes "product" ∷ codes "discarded" ∷ []; is = refl; plain = (refl, refl); unlisted = refl }

pub last_lot_asks : AsksSorted true limit_one last_lot_text 3 by_low_serial (col 1 3) more_lot_columns
unfolding understood everything
last_lot_asks = record { names = codes "low_serial" ∷ codes "amount" ∷ codes "name" ∷ codes "product" ∷ []; is = refl; plain = (refl, refl); unlisted = refl }

pub batches_of_asks : Asks batches_of_text 5 by_batch_product head_columns
unfolding understood everything
batches_of_asks = record { names = head_names; is = refl; plain = (refl, refl); unlisted = refl }

pub charged_asks : Asks charged_text 16 by_id id_columns
unfolding understood everything
charged_asks = record { names = codes "serial" ∷ []; is = refl; plain = (refl, refl); unlisted = refl }

pub products_asks : Asks products_text 1 [] first_column
unfolding understood everything
products_asks = record { names = codes "name" ∷ []; is = refl; plain = (refl, refl); unlisted = refl }

pub lot_names_asks : Asks lot_names_text 3 [] first_column
unfolding understood everything
lot_names_asks = record { names = codes "name" ∷ []; is = refl; plain = (refl, refl); unlisted = refl }

pub last_batch_asks : AsksSorted true limit_one last_batch_text 5 [] (col 1 0) []
unfolding understood everything
last_batch_asks = record { names = codes "id" ∷ []; is = refl; plain = (refl, refl); unlisted = refl }
