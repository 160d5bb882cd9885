-- The meaning of each text.
use Rattle.std.proofs.Common.{refl}
use Rattle.sqlite.specs.Command.TheVariants.{Insert}
use Rattle.sqlite.specs.Source.TheVariants.{Values}
use Rattle.sqlite.specs.Listing.{understood}
use Rattle.sqlite_tied.specs.Compute.{everything}
use Rattle.row_writes.proofs.Meanings.{Means}
use Rattle.remaking.specs.PutTexts.{put_batch_terms, put_batch_text, put_lot_terms, put_lot_text, put_record_terms, put_record_text, put_session_terms, put_session_text}

pub record PutsMean : Type 0 where
  pub lots : Means put_lot_text (Insert 2 (Values put_lot_terms 6))
  pub batches : Means put_batch_text (Insert 3 (Values put_batch_terms 13))
  pub records : Means put_record_text (Insert 4 (Values put_record_terms 7))
  pub sessions : Means put_session_text (Insert 6 (Values put_session_terms 13))

pub puts_mean : PutsMean
unfolding understood everything
puts_mean = record { lots = refl; batches = refl; records = refl; sessions = refl }
