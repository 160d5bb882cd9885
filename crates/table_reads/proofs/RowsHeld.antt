-- The rows that were read from all tables are the rows of the version.
use Rattle.std.proofs.Common.{◌≡◌, ◌↔◌, ◌&&◌, ℕ, Bool, true, false, List, [], ◌∷◌, map, Option, Some, None, MatchOption, Vec, Global, IsTrue, refl, sym, ap, subst, arith}
use Rattle.std.specs.List.{AllByRecursion}
use Rattle.std.specs.List.Sorted.{IsPermutation}
use Rattle.std.proofs.lemmas.List.Sorted.{length_permutation}
use Rattle.sqlite.specs.Effect.{Database}
use Rattle.sqlite.specs.Order.{Row}
use Rattle.sqlite.specs.Table.{Table}
use Rattle.sqlite_keyed.proofs.RuleLemmas.{first_of_both, second_of_both}
use Rattle.job_facts.specs.Contents.{Entry, Mark}
use Rattle.sql_base.specs.Rowids.{AreApart}
use Rattle.sql_tables.specs.Tables.{batch_at, blank_at, grouping_at, lot_at, mark_at, our_schema, product_at, record_at, remake_at, reply_at, session_at, word_at}
use Rattle.sql_tables.specs.Alike.{HasExactly}
use Rattle.sql_tables.specs.Finds.{Finds}
use Rattle.sql_tables.specs.Ours.{AreThere, HasTable}
use Rattle.sql_tables.specs.Versions.{numbered_version_at, schema_of, unmixed_grouping_at}
use Rattle.sql_tables.specs.declared.versions.Version.{Version}
use Rattle.sql_tables.specs.declared.versions.Version.TheVariants.{One, Two, Three}
use Rattle.table_rows.specs.Tables.{HaveSameRows, Tables}
use Rattle.table_reads.specs.Holding.{Holds, HoldsMarks, HoldsRows, SaysVersion, groupings_at}
use Rattle.sql_rows.specs.Encoding.{batch_row, blank_row, grouping_row, lot_row, product_row, record_row, remake_row, reply_row, session_row, word_row}
use Rattle.sql_rows.specs.Decoding.{reply_of}
use Rattle.sql_rows.specs.Image.{given_rows}
use Rattle.sql_rows.proofs.OneImage.{same_typed}
use Rattle.table_reads.specs.Reading.{Has, HasForAudit, HasGroupings, HasMarks, HasMost, HoldsNoneOf, MarksAre, held_of}
use Rattle.table_reads.specs.Replies.{StandWithoutBytes}
use Rattle.table_reads.specs.Shown.{IsAny}
use Rattle.table_reads.specs.Unread.{without_reply_bytes}
use Rattle.table_reads.specs.Version.{numbered_row}
use Rattle.table_reads.specs.Whole.{NoneFit}
use Rattle.table_reads.specs.declared.reads.TableRows.{TableRows}
use Rattle.table_reads.specs.declared.tables.HeldRows.{HeldRows}
use Rattle.table_reads.proofs.Found.{all_found}
use Rattle.table_reads.proofs.OneVersion.{one_number, one_row, ours_alone}
use Rattle.table_reads.proofs.Together.{last_found, then_found}
use Rattle.table_reads.proofs.TableReads.{IsRead}
use Rattle.table_reads.specs.declared.tables.MostRows.{MostRows}

at : (table : ℕ → Table) (by_rowid : Bool) (rows : List Row) (db : Database) (n : ℕ) → Finds db.schema (table n) → Has table by_rowid rows db → Holds table by_rowid rows db
at table by_rowid rows db n finds has = record { number = n; finds = finds; rows_are = has n finds }

module _ (v : Version) (db : Database) (held : HeldRows) (most : HasMost v db held) (replies : List Entry) (of_replies : Holds reply_at false (map reply_row replies) db) where
  -- under the tree numbers of the tables
  rows_numbered : {p l b r s w k m : ℕ} → HasExactly db.schema (schema_of v) → SaysVersion v db
      → HasTable db.schema (product_at p) → HasTable db.schema (lot_at l) → HasTable db.schema (batch_at b) → HasTable db.schema (record_at r) → HasTable db.schema (session_at s) → HasTable db.schema (word_at w)
      → HasTable db.schema (blank_at k) → HasTable db.schema (remake_at m)
      → Holds (groupings_at v) false (map grouping_row held.tables.groupings) db → HoldsMarks v held.tables.marks db → HoldsRows v (record held.tables { replies = replies }) db
  rows_numbered just says product lot batch of_record session word blank remake groupings marks = record {
    just = just;
    version = says;
    products = at product_at false _ db product.number product.finds most.products;
    lots = at lot_at false _ db lot.number lot.finds most.lots;
    batches = at batch_at true _ db batch.number batch.finds most.batches;
    records = at record_at false _ db of_record.number of_record.finds most.records;
    groupings = groupings;
    sessions = at session_at true _ db session.number session.finds most.sessions;
    words = at word_at false _ db word.number word.finds most.words;
    blanks = at blank_at true _ db blank.number blank.finds most.blanks;
    remakes = at remake_at false _ db remake.number remake.finds most.remakes;
    replies = of_replies;
    marks = marks;
  }

-- If the tables are the tables of `v`, and the row of `version` has its number, the database holds
-- the rows `t`.
abbrev HasRows : Version → Database → Tables → Type 0
HasRows v db t = HasExactly db.schema (schema_of v) → AreThere db.schema (schema_of v).tables → SaysVersion v db → HoldsRows v t db

rows_held : (v : Version) (db : Database) (held : HeldRows) → HasMost v db held → (replies : List Entry) → Holds reply_at false (map reply_row replies) db → HasRows v db (record held.tables { replies = replies })
rows_held One db held most replies of_replies just there says =
    rows_numbered One db held most replies of_replies just says there.0 there.1.0 there.1.1.0 there.1.1.1.0 there.1.1.1.1.0 there.1.1.1.1.1.0 there.1.1.1.1.1.1.0 there.1.1.1.1.1.1.1.0
    (at unmixed_grouping_at false _ db there.1.1.1.1.1.1.1.1.1.0.number there.1.1.1.1.1.1.1.1.1.0.finds most.groupings) most.marks
rows_held Two db held most replies of_replies just there says =
    rows_numbered Two db held most replies of_replies just says there.0 there.1.0 there.1.1.0 there.1.1.1.0 there.1.1.1.1.0 there.1.1.1.1.1.0 there.1.1.1.1.1.1.0 there.1.1.1.1.1.1.1.0
    (at unmixed_grouping_at false _ db there.1.1.1.1.1.1.1.1.1.0.number there.1.1.1.1.1.1.1.1.1.0.finds most.groupings) (at mark_at false _ db there.1.1.1.1.1.1.1.1.1.1.0.number there.1.1.1.1.1.1.1.1.1.1.0.finds most.marks)
rows_held Three db held most replies of_replies just there says =
    rows_numbered Three db held most replies of_replies just says there.1.0 there.1.1.0 there.1.1.1.0 there.1.1.1.1.0 there.1.1.1.1.1.1.0 there.1.1.1.1.1.1.1.0 there.1.1.1.1.1.1.1.1.0 there.1.1.1.1.1.1.1.1.1.0
    (at grouping_at false _ db there.1.1.1.1.1.0.number there.1.1.1.1.1.0.finds most.groupings) (at mark_at false _ db there.1.1.1.1.1.1.1.1.1.1.1.0.number there.1.1.1.1.1.1.1.1.1.1.1.0.finds most.marks)

-- The database has the table `reply`.
record IsThere (db : Database) : Type 0 where
  number : ℕ
  finds : Finds db.schema (reply_at number)

replies_there : (v : Version) (db : Database) → AreThere db.schema (schema_of v).tables → IsThere db
replies_there One db there = let it = there.1.1.1.1.1.1.1.1.0 in record { number = it.number; finds = it.finds }
replies_there Two db there = let it = there.1.1.1.1.1.1.1.1.0 in record { number = it.number; finds = it.finds }
replies_there Three db there = let it = there.1.1.1.1.1.1.1.1.1.1.0 in record { number = it.number; finds = it.finds }

-- ---- rowids

infixl 10 ◌⊓◌
◌⊓◌ : {x y : Bool} {A B : Type 0} → IsTrue x ↔ A → IsTrue y ↔ B → IsTrue (x && y) ↔ (A × B)
◌⊓◌ {x} {y} one two = ((λ h. (one.0 (first_of_both x y h), two.0 (second_of_both x y h))), (λ both. let e = one.1 both.0 in let f = two.1 both.1 in rw (e, f) refl))

-- The rowid of a single row is different from all others.
single_is : (row : Row) (rows : List Row) → IsPermutation (row ∷ []) rows → rows ≡ row ∷ []
single_is row [] same = absurd (let e = length_permutation _ _ same in cc)
single_is row (x ∷ []) same = ap (λ r. r ∷ []) (sym (one_row row x same))
single_is row (x ∷ y ∷ rows) same = absurd (let e = length_permutation _ _ same in omega arith)

version_apart : (db : Database) → db.schema ≡ our_schema → SaysVersion Three db → AreApart (db.trees 0)
version_apart db ours says =
    let e = one_number our_schema (numbered_version_at 3) says.number 0 (record { named = λ n m. refl; numbered = λ n. refl }) (subst (λ s. Finds s (numbered_version_at 3 says.number)) ours says.finds) all_found.0 in
    let there = subst (λ n. IsPermutation (numbered_row 3 ∷ []) (db.trees n)) e says.rows_are in
    subst AreApart (sym (single_is (numbered_row 3) (db.trees 0) there)) (record { apart = (tt, tt); ints = (refl, tt) })

-- all rows, without the bytes of replies
pub for_audit : (v : Version) (db : Database) (held : HeldRows) → HasMost v db held → (replies : TableRows Entry)
    → ((tree : ℕ) → Finds db.schema (reply_at tree) → StandWithoutBytes replies.rows.items (given_rows false (db.trees tree)) × (IsTrue replies.apart ↔ AreApart (db.trees tree)))
    → HasForAudit v db (record { tables = record held.tables { replies = replies.rows.items }; apart = held.apart && replies.apart })
for_audit v db held most replies brief just there says =
    let it = replies_there v db there in
    let stand = (brief it.number it.finds).0 in
    record {
      rows = record held.tables { replies = stand.all };
      holds = rows_held v db held most stand.all (record { number = it.number; finds = it.finds; rows_are = stand.rows_are }) just there says;
      tables = ap (λ rs. record held.tables { replies = rs }) stand.without;
      apart = λ ours.
          let three = ours_alone v db says ours in
          let own = version_apart db ours (subst (λ w. SaysVersion w db) three says) in
          let both = most.apart three ours ⊓ (brief 19 (subst (λ s. Finds s (reply_at 19)) (sym ours) all_found.1.1.1.1.1.1.1.1.1.1.0)).1 in
          ((λ h. let parts = both.0 h in assumption), (λ all. both.1 (assumption)));
    }

-- the result of reading replies without their bytes
abbrev pub BriefRead : Database → Option (TableRows Entry) → Type 0
BriefRead db found =
    (tree : ℕ) → Finds db.schema (reply_at tree) → MatchOption found (NoneFit reply_row IsAny (given_rows false (db.trees tree))) (λ all. StandWithoutBytes all.rows.items (given_rows false (db.trees tree)) × (IsTrue all.apart ↔ AreApart (db.trees tree)))

pub none_brief : (v : Version) (db : Database) (found : Option (TableRows Entry)) → found ≡ None → BriefRead db found → HoldsNoneOf v db
none_brief v db found none read = λ t fit held. subst (BriefRead db) none read held.replies.number held.replies.finds t.replies (λ k d low. tt) held.replies.rows_are

-- the rows as the function puts them together
pub put_together : (v : Version) (db : Database) (held : HeldRows) → HasMost v db held → (found : Option (TableRows Entry)) (replies : TableRows Entry) → found ≡ Some replies → BriefRead db found
    → (t : Tables) (rows : Vec Entry Global) (apart : Bool) → t ≡ held.tables → rows ≡ replies.rows → apart ≡ (held.apart && replies.apart) → HasForAudit v db (record { tables = record t { replies = rows.items }; apart = apart })
put_together v db held most found replies is read t rows apart same_tables same_rows same_apart =
    subst (λ u. HasForAudit v db (record { tables = record u { replies = rows.items }; apart = apart })) (sym same_tables)
    (subst (λ (vec : Vec Entry Global). HasForAudit v db (record { tables = record held.tables { replies = vec.items }; apart = apart })) (sym same_rows)
    (subst (λ a. HasForAudit v db (record { tables = record held.tables { replies = replies.rows.items }; apart = a })) (sym same_apart) (for_audit v db held most replies (subst (BriefRead db) is read))))

-- the rows with the bytes of replies
pub with_bytes : (v : Version) (db : Database) (tables t : Tables) → HoldsRows v t db → HaveSameRows tables (without_reply_bytes t) → (replies : List Entry) → Has reply_at false (map reply_row replies) db → HaveSameRows (record tables { replies = replies }) t
with_bytes v db tables t holds same replies has =
    let read = same_typed reply_row reply_of (λ e. refl) replies t.replies _ (has holds.replies.number holds.replies.finds) holds.replies.rows_are in
    assumption

-- ---- all tables except `reply`, if each was read

marks_are : (v : Version) (db : Database) (all : TableRows Mark) → HasMarks v db all → MarksAre v all.rows.items db
marks_are One db all has = has
marks_are Two db all has = λ tree f. (has tree f).0
marks_are Three db all has = λ tree f. (has tree f).0

-- Each table was read, or the database holds no rows of the version.
pub record AreRead (v : Version) (db : Database) (found : MostRows) : Type 0 where
  pub products : IsRead v product_row product_at false db found.products
  pub lots : IsRead v lot_row lot_at false db found.lots
  pub batches : IsRead v batch_row batch_at true db found.batches
  pub records : IsRead v record_row record_at false db found.records
  pub groupings : MatchOption found.groupings (HoldsNoneOf v db) (HasGroupings v db)
  pub sessions : IsRead v session_row session_at true db found.sessions
  pub words : IsRead v word_row word_at false db found.words
  pub blanks : IsRead v blank_row blank_at true db found.blanks
  pub remakes : IsRead v remake_row remake_at false db found.remakes
  pub marks : MatchOption found.marks (HoldsNoneOf v db) (HasMarks v db)

pub most_read : (v : Version) (db : Database) (found : MostRows) → AreRead v db found → MatchOption (held_of found) (HoldsNoneOf v db) (HasMost v db)
most_read v db found read =
    then_found _ _ _ _ found.products read.products (λ _ products.
    then_found _ _ _ _ found.lots read.lots (λ _ lots.
    then_found _ _ _ _ found.batches read.batches (λ _ batches.
    then_found _ _ _ _ found.records read.records (λ _ records.
    then_found _ _ _ _ found.groupings read.groupings (λ of_groupings groupings.
    then_found _ _ _ _ found.sessions read.sessions (λ _ sessions.
    then_found _ _ _ _ found.words read.words (λ _ words.
    then_found _ _ _ _ found.blanks read.blanks (λ _ blanks.
    then_found _ _ _ _ found.remakes read.remakes (λ _ remakes.
    last_found _ _ _ _ found.marks read.marks (λ of_marks marks. record {
      products = λ tree f. (products tree f).0;
      lots = λ tree f. (lots tree f).0;
      batches = λ tree f. (batches tree f).0;
      records = λ tree f. (records tree f).0;
      groupings = λ tree f. (groupings tree f).0;
      sessions = λ tree f. (sessions tree f).0;
      words = λ tree f. (words tree f).0;
      blanks = λ tree f. (blanks tree f).0;
      remakes = λ tree f. (remakes tree f).0;
      marks = marks_are v db of_marks marks;
      apart = λ three ours.
          let f = subst (λ s. AllByRecursion (Finds s) our_schema.tables) (sym ours) all_found in
          let mixed = subst (λ w. HasGroupings w db of_groupings) three groupings in
          let released = subst (λ w. HasMarks w db of_marks) three marks in
          let all =
          (products 1 f.1.0).1 ⊓ (lots 3 f.1.1.0).1 ⊓ (batches 5 f.1.1.1.0).1 ⊓ (records 7 f.1.1.1.1.0).1 ⊓ (mixed 10 f.1.1.1.1.1.0).1 ⊓ (sessions 12 f.1.1.1.1.1.1.0).1
          ⊓ (words 14 f.1.1.1.1.1.1.1.0).1 ⊓ (blanks 16 f.1.1.1.1.1.1.1.1.0).1 ⊓ (remakes 17 f.1.1.1.1.1.1.1.1.1.0).1 ⊓ (released 21 f.1.1.1.1.1.1.1.1.1.1.1.0).1 in
          ((λ h. let parts = all.0 h in assumption), (λ parts. all.1 (assumption)));
    }))))))))))
