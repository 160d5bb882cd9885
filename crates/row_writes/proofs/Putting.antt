-- The effect of each INSERT on the rows.
use Rattle.std.proofs.Common.{ℕ, [], ◌∷◌, Ok, refl}
use Rattle.sqlite.specs.declared.types.Value.TheVariants.{Text}
use Rattle.sqlite.specs.Order.{Row}
use Rattle.sqlite.specs.State.{Executes, State}
use Rattle.store_data.specs.declared.row.Product.{Product}
use Rattle.job_facts.specs.declared.facts.Lot.{Lot}
use Rattle.job_facts.specs.Contents.{Entry, Mark}
use Rattle.table_rows.specs.After.{new_lot}
use Rattle.table_rows.specs.Tables.{StoredRemake, StoredWord, with_lot, with_mark, with_product, with_remake, with_reply, with_word}
use Rattle.sql_rows.specs.Encoding.{mark_row, number, product_row, remake_row, reply_row, word_row}
use Rattle.sql_rows.specs.Image.{Moves}
use Rattle.row_writes.specs.Texts.{add_lot_terms, add_lot_text, add_mark_terms, add_mark_text, add_remake_terms, add_remake_text, add_product_terms, add_product_text, add_reply_terms, add_reply_text, add_word_terms, add_word_text}
use Rattle.row_writes.proofs.AddingRows.{rows_added}
use Rattle.row_writes.proofs.AddingRows as tables
use Rattle.row_writes.proofs.Meanings.{adds_mean}

pub product_added : (old new : State) (p : Product) (count : ℕ) → Executes add_product_text (product_row p) old new (Ok count) → Moves (with_product p) old.now new.now
product_added old new p = rows_added tables.products add_product_text (product_row p) add_product_terms 5 adds_mean.products (p ∷ []) refl old new

pub reply_added : (old new : State) (e : Entry) (count : ℕ) → Executes add_reply_text (reply_row e) old new (Ok count) → Moves (with_reply e) old.now new.now
reply_added old new e = rows_added tables.replies add_reply_text (reply_row e) add_reply_terms 6 adds_mean.replies (e ∷ []) refl old new

pub word_added : (old new : State) (w : StoredWord) (count : ℕ) → Executes add_word_text (word_row w) old new (Ok count) → Moves (with_word w) old.now new.now
word_added old new w = rows_added tables.words add_word_text (word_row w) add_word_terms 4 adds_mean.words (w ∷ []) refl old new

abbrev pub lot_values : Lot → Row
lot_values l = Text l.name ∷ Text l.product ∷ number l.first ∷ number l.count ∷ []

pub lot_added : (old new : State) (l : Lot) (count : ℕ) → Executes add_lot_text (lot_values l) old new (Ok count) → Moves (with_lot (new_lot l)) old.now new.now
lot_added old new l = rows_added tables.lots add_lot_text (lot_values l) add_lot_terms 6 adds_mean.lots (new_lot l ∷ []) refl old new

pub remake_added : (old new : State) (r : StoredRemake) (count : ℕ) → Executes add_remake_text (remake_row r) old new (Ok count) → Moves (with_remake r) old.now new.now
remake_added old new r = rows_added tables.remakes add_remake_text (remake_row r) add_remake_terms 4 adds_mean.remakes (r ∷ []) refl old new

pub mark_added : (old new : State) (m : Mark) (count : ℕ) → Executes add_mark_text (mark_row m) old new (Ok count) → Moves (with_mark m) old.now new.now
mark_added old new m = rows_added tables.marks add_mark_text (mark_row m) add_mark_terms 3 adds_mean.marks (m ∷ []) refl old new
