-- The parsed queries of the statements in Texts.antt.
use Rattle.std.proofs.Common.{[], ◌∷◌, codes, refl}
use Rattle.sqlite.specs.Listing.{understood}
use Rattle.sqlite_tied.specs.Compute.{everything}
use Rattle.row_reads.specs.Texts.{by_first_column, mark_columns, mark_text, product_columns, product_text}
use Rattle.row_reads.proofs.Asking.{Asks}

pub product_asks : Asks product_text 1 by_first_column product_columns
unfolding understood everything
product_asks = record { names = codes "name" ∷ codes "max" ∷ codes "low" ∷ codes "checked" ∷ []; is = refl; plain = (refl, refl); unlisted = refl }

pub mark_asks : Asks mark_text 21 by_first_column mark_columns
unfolding understood everything
mark_asks = record { names = codes "upto" ∷ []; is = refl; plain = (refl, refl); unlisted = refl }
