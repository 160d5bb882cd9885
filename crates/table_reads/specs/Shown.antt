-- The shapes of the rows that a query of a whole table returns, and the typed rows that they can
-- represent.
use Rattle.std.specs.Prelude.{◌≡◌, ◌<◌, ◌^◌, ℕ, length, ⊤}
use Rattle.sqlite.specs.Order.{Row, column}
use Rattle.sqlite.specs.declared.types.Value.{Value}
use Rattle.sqlite.specs.declared.types.Value.TheVariants.{Blob, Text}
use Rattle.store_data.specs.declared.row.Product.{Product}
use Rattle.sql_rows.specs.Decoding.{bytes_in, number_in}
use Rattle.sql_rows.specs.Encoding.{number}
use Rattle.table_rows.specs.Tables.{StoredGrouping, StoredLot, StoredWord}

-- ---- values

abbrev pub IsNumber : Value → Type 0
IsNumber v = number (number_in v) ≡ v

abbrev pub IsBelow : ℕ → Value → Type 0
IsBelow limit v = IsNumber v × (number_in v < limit)

abbrev pub IsText : Value → Type 0
IsText v = Text (bytes_in v) ≡ v

abbrev pub IsBlob : Value → Type 0
IsBlob v = Blob (bytes_in v) ≡ v

-- ---- rows; each begins with its rowid, which may also be a column of the table

unfoldable pub IsProductRow : Row → Type 0
IsProductRow r = (length r ≡ 5) × IsText (column r 1) × IsBelow 256 (column r 2) × IsBelow 256 (column r 3) × IsBelow 2 (column r 4)

unfoldable pub IsLotRow : Row → Type 0
IsLotRow r =
    (length r ≡ 6) × IsText (column r 1) × IsText (column r 2) × IsNumber (column r 3) × IsBelow (2 ^ 32) (column r 4)
    × IsNumber (column r 5)

unfoldable pub IsBatchRow : Row → Type 0
IsBatchRow r =
    (length r ≡ 12) × IsNumber (column r 0) × IsText (column r 1) × IsText (column r 2) × IsBlob (column r 3) × IsBelow 2 (column r 4)
    × IsNumber (column r 5) × IsNumber (column r 6) × IsNumber (column r 7) × IsNumber (column r 8) × IsNumber (column r 9)
    × IsNumber (column r 10) × IsNumber (column r 11)

unfoldable pub IsRecordRow : Row → Type 0
IsRecordRow r =
    (length r ≡ 7) × IsNumber (column r 1) × IsNumber (column r 2) × IsText (column r 3) × IsBelow 5 (column r 4) × IsNumber (column r 5)
    × IsNumber (column r 6)

unfoldable pub IsGroupingRow : Row → Type 0
IsGroupingRow r =
    (length r ≡ 9) × IsNumber (column r 1) × IsNumber (column r 2) × IsNumber (column r 3) × IsBlob (column r 4)
    × IsBelow 65536 (column r 5) × IsBelow 3 (column r 6) × IsBelow 2 (column r 7) × IsBlob (column r 8)

unfoldable pub IsSessionRow : Row → Type 0
IsSessionRow r =
    (length r ≡ 12) × IsNumber (column r 0) × IsText (column r 1) × IsNumber (column r 2) × IsNumber (column r 3) × IsNumber (column r 4)
    × IsBelow 3 (column r 5) × IsBelow 2 (column r 6) × IsNumber (column r 7) × IsNumber (column r 8) × IsNumber (column r 9)
    × IsNumber (column r 10) × IsNumber (column r 11)

unfoldable pub IsWordRow : Row → Type 0
IsWordRow r = (length r ≡ 4) × IsNumber (column r 1) × IsNumber (column r 2) × IsBelow 65536 (column r 3)

unfoldable pub IsBlankRow : Row → Type 0
IsBlankRow r = (length r ≡ 3) × IsNumber (column r 0) × IsText (column r 1) × IsBelow 2 (column r 2)

unfoldable pub IsRemakeRow : Row → Type 0
IsRemakeRow r = (length r ≡ 4) × IsNumber (column r 1) × IsNumber (column r 2) × IsNumber (column r 3)

unfoldable pub IsReplyRow : Row → Type 0
IsReplyRow r = (length r ≡ 6) × IsText (column r 1) × IsNumber (column r 2) × IsBlob (column r 3) × IsNumber (column r 4) × IsBlob (column r 5)

unfoldable pub IsMarkRow : Row → Type 0
IsMarkRow r = (length r ≡ 3) × IsText (column r 1) × IsNumber (column r 2)

-- a row of `reply` without the request bytes and the body
unfoldable pub IsBriefRow : Row → Type 0
IsBriefRow r = (length r ≡ 4) × IsText (column r 1) × IsNumber (column r 2) × IsNumber (column r 3)

-- ---- typed rows, whose numbers are in the ranges of the program's types

abbrev pub IsAny : {X : Type 0} → X → Type 0
IsAny x = ⊤

abbrev pub FitsProduct : Product → Type 0
FitsProduct p = (p.max < 256) × (p.low < 256)

abbrev pub FitsLot : StoredLot → Type 0
FitsLot l = l.lot.count < 2 ^ 32

abbrev pub FitsGrouping : StoredGrouping → Type 0
FitsGrouping g = g.rank < 65536

abbrev pub FitsWord : StoredWord → Type 0
FitsWord w = w.sw < 65536
