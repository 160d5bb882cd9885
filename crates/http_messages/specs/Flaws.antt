-- Defines the printed words of the flaws of a malformed message (this project's profile).
use Rattle.std.specs.Prelude.{ℕ, List, codes, Option, Some, None}
use Rattle.http_messages.specs.declared.flaw.Flaw.{Flaw}
use Rattle.http_messages.specs.declared.flaw.Flaw.TheVariants as flaw
use Rattle.http_messages.specs.declared.flaw.Member.{Member}
use Rattle.http_messages.specs.declared.flaw.Member.TheVariants as m

-- the name of a member
abbrev pub name_of : Member → List ℕ
name_of m.Do = codes "do"
name_of m.Batch = codes "batch"
name_of m.Blank = codes "blank"
name_of m.Check = codes "check"
name_of m.Count = codes "count"
name_of m.First = codes "first"
name_of m.Index = codes "index"
name_of m.Lot = codes "lot"
name_of m.Low = codes "low"
name_of m.Max = codes "max"
name_of m.Product = codes "product"
name_of m.Record = codes "record"
name_of m.Session = codes "session"
name_of m.Sw = codes "sw"
name_of m.Upto = codes "upto"

abbrev pub word_of : Flaw → List ℕ
word_of flaw.BareLf = codes "bare-lf"
word_of flaw.Grammar = codes "grammar"
word_of flaw.TransferEncoding = codes "transfer-encoding"
word_of flaw.ContentLength = codes "content-length"
word_of flaw.PathName = codes "name"
word_of flaw.PathNumber = codes "number"
word_of flaw.Body = codes "body"
word_of (flaw.Missing member) = codes "missing"
word_of (flaw.Value member) = codes "value"
word_of (flaw.Additional member) = codes "additional"

-- the member with the flaw, if there is one
abbrev pub member_of : Flaw → Option Member
member_of (flaw.Missing member) = Some member
member_of (flaw.Value member) = Some member
member_of (flaw.Additional member) = Some member
member_of _ = None
