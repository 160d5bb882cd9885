-- The rows that queries over the tables return. Their values are in the ranges of the program.
use Rattle.std.specs.Prelude.{◌≡◌, ◌≤◌, ◌<◌, ◌^◌, ℕ, pos, List, length, IfErr, IsTrue, Result}
use Rattle.sqlite.specs.declared.error.Error.{Error}
use Rattle.sqlite.specs.declared.error.Error.TheVariants.{SqliteFailure}
use Rattle.sqlite.specs.declared.error.ErrorCode.TheVariants.{OutOfMemory}
use Rattle.sqlite.specs.declared.types.Value.{Value}
use Rattle.sqlite.specs.declared.types.Value.TheVariants.{Blob, Int, Text}
use Rattle.sqlite.specs.Order.{Row, column}
use Rattle.store_data.specs.Name.{is_name}

-- If the call fails, an allocation failed.
abbrev pub FailsForMemory : {X : Type 0} → Result X Error → Type 0
FailsForMemory result = IfErr result (λ e. e ≡ SqliteFailure OutOfMemory)

-- ---- values

abbrev pub IsIn : ℕ → ℕ → Value → Type 0
IsIn least most v = (n : ℕ) × (v ≡ Int (pos n)) × (least ≤ n) × (n ≤ most)

abbrev pub IsBelow : ℕ → Value → Type 0
IsBelow limit v = (n : ℕ) × (v ≡ Int (pos n)) × (n < limit)

-- `v` is an integer that isn't negative.
abbrev pub IsWhole : Value → Type 0
IsWhole v = IsBelow (2 ^ 63) v

abbrev pub IsNameText : Value → Type 0
IsNameText v = (text : List ℕ) × (v ≡ Text text) × IsTrue (is_name text)

abbrev pub IsBlob : Value → Type 0
IsBlob v = (bytes : List ℕ) × (v ≡ Blob bytes)

abbrev pub IsAidBlob : Value → Type 0
IsAidBlob v = (bytes : List ℕ) × (v ≡ Blob bytes) × (5 ≤ length bytes) × (length bytes ≤ 16)

-- ---- rows

pub record IsProductAnswer (row : Row) : Type 0 where
  pub code : IsNameText (column row 0)
  pub max : IsIn 16 255 (column row 1)
  pub low : IsIn 0 31 (column row 2)
  pub check : IsBelow 2 (column row 3)

pub record IsReplyAnswer (row : Row) : Type 0 where
  pub ask : IsBlob (column row 0)
  pub status : IsIn 0 65535 (column row 1)
  pub body : IsBlob (column row 2)

pub record IsLotAnswer (row : Row) : Type 0 where
  pub first : IsWhole (column row 0)
  pub count : IsBelow (2 ^ 32) (column row 1)
  pub name : IsNameText (column row 2)
  pub product : IsNameText (column row 3)

pub record IsLotRowAnswer (row : Row) : Type 0 where
  pub lot : IsLotAnswer row
  pub discarded : IsWhole (column row 4)

pub record IsBatchAnswer (row : Row) : Type 0 where
  pub id : IsWhole (column row 0)
  pub product : IsNameText (column row 1)
  pub is_closed : IsBelow 2 (column row 2)

-- The counters of a batch are in columns 3 to 9. The counters of records are below 2^32.
pub record AreTotalsAnswer (row : Row) : Type 0 where
  pub waiting : IsBelow (2 ^ 32) (column row 3)
  pub running : IsBelow (2 ^ 32) (column row 4)
  pub failed : IsBelow (2 ^ 32) (column row 5)
  pub withdrawn : IsBelow (2 ^ 32) (column row 6)
  pub good : IsBelow (2 ^ 32) (column row 7)
  pub sessions : IsWhole (column row 8)
  pub spoiled : IsWhole (column row 9)

pub record IsHeadAnswer (row : Row) : Type 0 where
  pub batch : IsBatchAnswer row
  pub totals : AreTotalsAnswer row

abbrev pub IsIdAnswer : Row → Type 0
IsIdAnswer row = IsWhole (column row 0)

abbrev pub IsNameAnswer : Row → Type 0
IsNameAnswer row = IsNameText (column row 1)

pub record IsRecordAnswer (row : Row) : Type 0 where
  pub place : IsWhole (column row 0)
  pub name : IsNameText (column row 1)
  pub stands : IsBelow 5 (column row 2)
  pub spoiled : IsWhole (column row 3)
  pub remakes : IsWhole (column row 4)

pub record IsGroupingAnswer (row : Row) : Type 0 where
  pub line : IsWhole (column row 0)
  pub aid : IsAidBlob (column row 1)
  pub rank : IsIn 1 999 (column row 2)
  pub enc : IsBelow 3 (column row 3)
  pub tol : IsBelow 2 (column row 4)

pub record IsCodedAnswer (row : Row) : Type 0 where
  pub line : IsWhole (column row 0)
  pub coded : IsBlob (column row 1)

-- The numbers of a cursor are in columns 5 to 8, in the ranges of plans.
pub record IsCursorAnswer (row : Row) : Type 0 where
  pub app : IsIn 0 4096 (column row 5)
  pub segment : IsIn 0 998 (column row 6)
  pub offset : IsIn 0 65535 (column row 7)
  pub block : IsIn 0 256 (column row 8)

pub record IsSessionAnswer (row : Row) : Type 0 where
  pub machine : IsNameText (column row 0)
  pub batch : IsWhole (column row 1)
  pub place : IsWhole (column row 2)
  pub stands : IsBelow 3 (column row 3)
  pub words : IsWhole (column row 4)
  pub cursor : IsCursorAnswer row

pub record IsGoodAnswer (row : Row) : Type 0 where
  pub place : IsWhole (column row 0)
  pub serial : IsWhole (column row 1)
