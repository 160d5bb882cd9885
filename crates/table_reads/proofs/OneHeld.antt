-- A database holds the rows of only one image, in any order.
use Rattle.std.proofs.Common.{◌≡◌, ℕ, Bool, true, false, List, [], map, refl, sym, subst}
use Rattle.std.specs.List.Sorted.{IsPermutation}
use Rattle.std.proofs.lemmas.List.Sorted.{IsPermutation-refl}
use Rattle.sqlite.specs.Effect.{Database}
use Rattle.sqlite.specs.Order.{Row}
use Rattle.sqlite.specs.Table.{Table}
use Rattle.job_facts.specs.Contents.{Mark}
use Rattle.table_rows.specs.Tables.{HaveSameRows, Tables}
use Rattle.sql_rows.specs.Decoding.{batch_of, blank_of, grouping_of, lot_of, mark_of, product_of, record_of, remake_of, reply_of, session_of, word_of}
use Rattle.sql_rows.specs.Encoding.{batch_row, blank_row, grouping_row, lot_row, mark_row, product_row, record_row, remake_row, reply_row, session_row, word_row}
use Rattle.sql_rows.specs.Image.{given_rows}
use Rattle.sql_rows.proofs.OneImage.{batch_back, blank_back, grouping_back, product_back, record_back, same_typed, session_back}
use Rattle.sql_tables.specs.Tables.{batch_at, blank_at, lot_at, mark_at, product_at, record_at, remake_at, reply_at, session_at, word_at}
use Rattle.sql_tables.specs.declared.versions.Version.{Version}
use Rattle.sql_tables.specs.declared.versions.Version.TheVariants.{One, Two, Three}
use Rattle.table_reads.specs.Holding.{Holds, HoldsMarks, HoldsRows, groupings_at}
use Rattle.table_reads.proofs.OneVersion.{IsNumbered, one_number, one_version}

-- A table holds only one list of typed rows, in any order.
one_list : {X : Type 0} (table : ℕ → Table) (by_rowid : Bool) (encode : X → Row) (decode : Row → X) → IsNumbered table → ((x : X) → decode (encode x) ≡ x)
    → (db : Database) (xs ys : List X) → Holds table by_rowid (map encode xs) db → Holds table by_rowid (map encode ys) db → IsPermutation xs ys
one_list table by_rowid encode decode is back db xs ys one two =
    let e = one_number db.schema table one.number two.number is one.finds two.finds in
    let there = subst (λ k. IsPermutation (map encode ys) (given_rows by_rowid (db.trees k))) (sym e) two.rows_are in
    same_typed encode decode back xs ys _ one.rows_are there

groupings_numbered : (v : Version) → IsNumbered (groupings_at v)
groupings_numbered One = record { named = λ n m. refl; numbered = λ n. refl }
groupings_numbered Two = record { named = λ n m. refl; numbered = λ n. refl }
groupings_numbered Three = record { named = λ n m. refl; numbered = λ n. refl }

marks_numbered : IsNumbered mark_at
marks_numbered = record { named = λ n m. refl; numbered = λ n. refl }

one_marks : (v : Version) (db : Database) (ms ns : List Mark) → HoldsMarks v ms db → HoldsMarks v ns db → IsPermutation ms ns
one_marks One db ms ns one two = subst (λ xs. IsPermutation xs ns) (sym one) (subst (IsPermutation []) (sym two) (IsPermutation-refl []))
one_marks Two db ms ns one two = one_list mark_at false mark_row mark_of marks_numbered (λ m. refl) db ms ns one two
one_marks Three db ms ns one two = one_list mark_at false mark_row mark_of marks_numbered (λ m. refl) db ms ns one two

one_held_in : (v : Version) (t u : Tables) (db : Database) → HoldsRows v t db → HoldsRows v u db → HaveSameRows t u
one_held_in v t u db a b = record {
  products = one_list product_at false product_row product_of (record { named = λ n m. refl; numbered = λ n. refl }) product_back db _ _ a.products b.products;
  lots = one_list lot_at false lot_row lot_of (record { named = λ n m. refl; numbered = λ n. refl }) (λ l. refl) db _ _ a.lots b.lots;
  batches = one_list batch_at true batch_row batch_of (record { named = λ n m. refl; numbered = λ n. refl }) batch_back db _ _ a.batches b.batches;
  records = one_list record_at false record_row record_of (record { named = λ n m. refl; numbered = λ n. refl }) record_back db _ _ a.records b.records;
  groupings = one_list (groupings_at v) false grouping_row grouping_of (groupings_numbered v) grouping_back db _ _ a.groupings b.groupings;
  sessions = one_list session_at true session_row session_of (record { named = λ n m. refl; numbered = λ n. refl }) session_back db _ _ a.sessions b.sessions;
  words = one_list word_at false word_row word_of (record { named = λ n m. refl; numbered = λ n. refl }) (λ w. refl) db _ _ a.words b.words;
  blanks = one_list blank_at true blank_row blank_of (record { named = λ n m. refl; numbered = λ n. refl }) blank_back db _ _ a.blanks b.blanks;
  remakes = one_list remake_at false remake_row remake_of (record { named = λ n m. refl; numbered = λ n. refl }) (λ r. refl) db _ _ a.remakes b.remakes;
  replies = one_list reply_at false reply_row reply_of (record { named = λ n m. refl; numbered = λ n. refl }) (λ e. refl) db _ _ a.replies b.replies;
  marks = one_marks v db _ _ a.marks b.marks;
}

pub one_held : (v w : Version) (t u : Tables) (db : Database) → HoldsRows v t db → HoldsRows w u db → HaveSameRows t u
one_held v w t u db a b = one_held_in v t u db a (subst (λ x. HoldsRows x u db) (sym (one_version v w db a.version b.version)) b)
