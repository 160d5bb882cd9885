-- The printed words of the causes (this project's profile).
use Rattle.std.specs.Prelude.{ℕ, List, codes}
use Rattle.import_causes.specs.declared.cause.Cause.{Cause}
use Rattle.import_causes.specs.declared.cause.Cause.TheVariants.{FewFields, ManyFields, NoRows, ColumnName, Empty, Long, Short, Character, NotHex, NotDecimal, Zero, Enc, Tol, ShortIdentifier, ShortLength, LongData, ShortData, Trailing}

abbrev pub word_of : Cause → List ℕ
word_of FewFields = codes "few-fields"
word_of ManyFields = codes "many-fields"
word_of NoRows = codes "no-rows"
word_of ColumnName = codes "column-name"
word_of Empty = codes "empty"
word_of Long = codes "long"
word_of Short = codes "short"
word_of Character = codes "character"
word_of NotHex = codes "not-hex"
word_of NotDecimal = codes "not-decimal"
word_of Zero = codes "zero"
word_of Enc = codes "enc"
word_of Tol = codes "tol"
word_of ShortIdentifier = codes "short-identifier"
word_of ShortLength = codes "short-length"
word_of LongData = codes "long-data"
word_of ShortData = codes "short-data"
word_of Trailing = codes "trailing"
