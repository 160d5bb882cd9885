-- The numbers in the rows of sound contents are in the ranges of the program's types.
use Rattle.std.proofs.Common.{◌≡◌, ◌<◌, ◌∙◌, ℕ, List, All, ap, arith}
use Rattle.std.specs.List.{enumerate_from}
use Rattle.std.proofs.lemmas.List.Elements.{All-map, All-same, All-weaker}
use Rattle.store_data.specs.declared.row.Product.{Product}
use Rattle.store_data.specs.declared.row.Row.{Row}
use Rattle.store_data.specs.Sequence.{IsProduct, IsRow}
use Rattle.job_facts.specs.Contents.{AreSound, Contents}
use Rattle.job_facts.specs.Facts.{Batch, Facts, Session}
use Rattle.job_facts.specs.Sound.{IsBatch, IsLot, IsSession}
use Rattle.job_facts.specs.States.{rows_of, rows_or_none, rows_under}
use Rattle.image_laws.specs.Image.{batches_by_id, groupings_in, image, sessions_by_id, stored_grouping, stored_groupings, stored_lot, stored_lots, stored_words, words_in}
use Rattle.image_laws.proofs.Lists.{All-joined, All-numbered}
use Rattle.table_reads.specs.Shown.{FitsGrouping, FitsLot, FitsProduct, FitsWord}
use Rattle.table_reads.specs.Reading.{Fit}

products_fit : (products : List Product) → All IsProduct products → All FitsProduct products
products_fit products all = All-weaker IsProduct FitsProduct (λ p is. (omega (arith, is.most), omega (arith, is.low))) products all

lots_fit : (f : Facts) → All (IsLot f.products) f.lots → All FitsLot (stored_lots f)
unfolding stored_lots
lots_fit f all = All-map FitsLot (stored_lot f) f.lots (All-weaker (IsLot f.products) (λ l. FitsLot (stored_lot f l)) (λ l is. omega (arith, is.most)) f.lots all)

abbrev IsRanked : Row → Type 0
IsRanked row = row.rank < 65536

file_is : (products : List Product) (b : Batch) (is : IsBatch products b) → rows_of products b ≡ is.rows
unfolding rows_of
file_is products b is = ap (λ p. rows_under p b.raw) is.there ∙ ap rows_or_none is.read

file_ranked : (products : List Product) (b : Batch) → IsBatch products b → All IsRanked (rows_of products b)
file_ranked products b is = All-same IsRanked (rows_of products b) is.rows (file_is products b is) (All-weaker IsRow IsRanked (λ row r. omega (arith, r.rank_most)) is.rows is.ranged.each)

batch_groupings_fit : (f : Facts) (e : ℕ × Batch) → IsBatch f.products e.1 → All FitsGrouping (groupings_in f e)
batch_groupings_fit f e is =
    All-map FitsGrouping (stored_grouping f e) (enumerate_from 2 (rows_of f.products e.1)) (All-numbered IsRanked 2 (rows_of f.products e.1) (file_ranked f.products e.1 is))

groupings_fit : (f : Facts) → All (IsBatch f.products) f.batches → All FitsGrouping (stored_groupings f)
unfolding stored_groupings
groupings_fit f all =
    All-joined FitsGrouping (groupings_in f) (batches_by_id f)
    (All-weaker (λ (e : ℕ × Batch). IsBatch f.products e.1) (λ e. All FitsGrouping (groupings_in f e)) (batch_groupings_fit f) (batches_by_id f) (All-numbered (IsBatch f.products) 1 f.batches all))

session_words_fit : (f : Facts) (e : ℕ × Session) → IsSession f e.1 → All FitsWord (words_in e)
session_words_fit f e is = All-map FitsWord (λ (w : ℕ × ℕ). record { session = e.0; place = w.0; sw = w.1 }) (enumerate_from 0 e.1.words) (All-numbered (λ w. w < 65536) 0 e.1.words is.words.ranged)

words_fit : (f : Facts) → All (IsSession f) f.sessions → All FitsWord (stored_words f)
unfolding stored_words
words_fit f all =
    All-joined FitsWord words_in (sessions_by_id f)
    (All-weaker (λ (e : ℕ × Session). IsSession f e.1) (λ e. All FitsWord (words_in e)) (session_words_fit f) (sessions_by_id f) (All-numbered (IsSession f) 1 f.sessions all))

pub sound_fit : (c : Contents) → AreSound c → Fit (image c)
sound_fit c sound =
    let named = sound.facts.named in
    record {
      products = products_fit c.facts.products named.products.ranged;
      lots = lots_fit c.facts named.lots.each;
      groupings = groupings_fit c.facts named.batches.each;
      words = words_fit c.facts sound.facts.sessions.each;
    }
