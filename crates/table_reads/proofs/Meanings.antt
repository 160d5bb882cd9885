-- The meaning of each query, in any schema in which its table is found.
use Rattle.std.proofs.Common.{ℕ, true, false, refl}
use Rattle.sqlite_tied.specs.Compute.{everything}
use Rattle.sql_tables.specs.Versions.{numbered_version_at, unmixed_grouping_at}
use Rattle.sql_tables.specs.Tables.{batch_at, blank_at, grouping_at, lot_at, mark_at, product_at, record_at, remake_at, reply_at, session_at, word_at}
use Rattle.table_reads.specs.Texts.{batches_text, blanks_text, groupings_text, lots_text, marks_text, products_text, records_text, remakes_text, replies_text, sessions_text, unmixed_groupings_text, version_text, words_text}
use Rattle.table_reads.specs.Whole.{IsWhole}
use Rattle.table_reads.proofs.WholeTables.{whole}

pub record Wholes : Type 0 where
  pub products : IsWhole products_text product_at false
  pub lots : IsWhole lots_text lot_at false
  pub batches : IsWhole batches_text batch_at true
  pub records : IsWhole records_text record_at false
  pub groupings : IsWhole groupings_text grouping_at false
  pub sessions : IsWhole sessions_text session_at true
  pub words : IsWhole words_text word_at false
  pub blanks : IsWhole blanks_text blank_at true
  pub remakes : IsWhole remakes_text remake_at false
  pub replies : IsWhole replies_text reply_at false
  pub marks : IsWhole marks_text mark_at false
  pub unmixed_groupings : IsWhole unmixed_groupings_text unmixed_grouping_at false

products_whole : IsWhole products_text product_at false
unfolding everything
products_whole = whole products_text product_at false (λ tree at. refl)

lots_whole : IsWhole lots_text lot_at false
unfolding everything
lots_whole = whole lots_text lot_at false (λ tree at. refl)

batches_whole : IsWhole batches_text batch_at true
unfolding everything
batches_whole = whole batches_text batch_at true (λ tree at. refl)

records_whole : IsWhole records_text record_at false
unfolding everything
records_whole = whole records_text record_at false (λ tree at. refl)

groupings_whole : IsWhole groupings_text grouping_at false
unfolding everything
groupings_whole = whole groupings_text grouping_at false (λ tree at. refl)

sessions_whole : IsWhole sessions_text session_at true
unfolding everything
sessions_whole = whole sessions_text session_at true (λ tree at. refl)

words_whole : IsWhole words_text word_at false
unfolding everything
words_whole = whole words_text word_at false (λ tree at. refl)

blanks_whole : IsWhole blanks_text blank_at true
unfolding everything
blanks_whole = whole blanks_text blank_at true (λ tree at. refl)

remakes_whole : IsWhole remakes_text remake_at false
unfolding everything
remakes_whole = whole remakes_text remake_at false (λ tree at. refl)

replies_whole : IsWhole replies_text reply_at false
unfolding everything
replies_whole = whole replies_text reply_at false (λ tree at. refl)

marks_whole : IsWhole marks_text mark_at false
unfolding everything
marks_whole = whole marks_text mark_at false (λ tree at. refl)

unmixed_groupings_whole : IsWhole unmixed_groupings_text unmixed_grouping_at false
unfolding everything
unmixed_groupings_whole = whole unmixed_groupings_text unmixed_grouping_at false (λ tree at. refl)

pub wholes : Wholes
wholes = record {
  products = products_whole;
  lots = lots_whole;
  batches = batches_whole;
  records = records_whole;
  groupings = groupings_whole;
  sessions = sessions_whole;
  words = words_whole;
  blanks = blanks_whole;
  remakes = remakes_whole;
  replies = replies_whole;
  marks = marks_whole;
  unmixed_groupings = unmixed_groupings_whole;
}

pub version_whole : (number : ℕ) → IsWhole version_text (numbered_version_at number) true
unfolding everything
version_whole number = whole version_text (numbered_version_at number) true (λ tree at. refl)
