-- Defines the JSON value of a reply.
use Rattle.std.specs.Prelude.{◌≡◌, ℕ, true, List, codes}
use Rattle.std.specs.List.{list_all}
use Rattle.hex.specs.Hex.{encode_upper}
use Rattle.serde_json.specs.Data.{Data, number, unsigned, string, object, member, no_members}
use Rattle.store_data.specs.Name.{is_name_char}
use Rattle.batch_import.specs.Kinds.{code_of as kind_code_of, name_of as kind_name_of}
use Rattle.job_facts.specs.Refusals.{code_of, name_of}
use Rattle.job_facts.specs.declared.reply.Reply.{Reply}
use Rattle.job_facts.specs.declared.reply.Reply.TheVariants.{Product, Lot, Import, Opened, Next, Good, Spoiled, Reset, Discarded, Waiting, Withdrawn, Closed, Refused, Busy, Released, NumberReleased, Faulty}
use Rattle.job_facts.specs.declared.reply.Made.{Made}
use Rattle.job_facts.specs.declared.reply.Made.TheVariants.{Created, Known}

abbrev pub made_name : Made → List ℕ
made_name Created = codes "created"
made_name Known = codes "known"

abbrev pub num : ℕ → Data
num n = number (unsigned n)

abbrev pub ended_value : List ℕ → ℕ → Data
ended_value result s = object (member (codes "result") (string result) (member (codes "session") (num s) no_members))

abbrev pub record_value : List ℕ → List ℕ → List ℕ → Data
record_value b r result = object (member (codes "batch") (string b) (member (codes "record") (string r) (member (codes "result") (string result) no_members)))

abbrev pub value_of : Reply → Data
value_of (Product p made) = object (member (codes "product") (string p) (member (codes "result") (string (made_name made)) no_members))
value_of (Lot l made) = object (member (codes "lot") (string l) (member (codes "result") (string (made_name made)) no_members))
value_of (Import b records made rows) =
    object (member (codes "batch") (string b) (member (codes "records") (num records) (member (codes "result") (string (made_name made)) (member (codes "rows") (num rows) no_members))))
value_of (Opened b blank command r s) =
    object (member (codes "batch") (string b) (member (codes "blank") (num blank) (member (codes "command") (string (encode_upper command)) (member (codes "index") (num 0)
    (member (codes "record") (string r) (member (codes "result") (string (codes "command")) (member (codes "session") (num s) no_members)))))))
value_of (Next command k s) =
    object (member (codes "command") (string (encode_upper command)) (member (codes "index") (num k) (member (codes "result") (string (codes "command")) (member (codes "session") (num s) no_members))))
value_of (Good s) = ended_value (codes "good") s
value_of (Spoiled s) = ended_value (codes "spoiled") s
value_of (Reset s) = ended_value (codes "reset") s
value_of (Discarded blank) = object (member (codes "blank") (num blank) (member (codes "result") (string (codes "discarded")) no_members))
value_of (Waiting b r) = record_value b r (codes "waiting")
value_of (Withdrawn b r) = record_value b r (codes "withdrawn")
value_of (Closed b) = object (member (codes "batch") (string b) (member (codes "result") (string (codes "closed")) no_members))
value_of (Refused why) = object (member (codes "code") (num (code_of why)) (member (codes "refused") (string (name_of why)) no_members))
value_of (Busy s) = object (member (codes "code") (num 61) (member (codes "refused") (string (codes "machine-busy")) (member (codes "session") (num s) no_members)))
value_of (Released mark) = object (member (codes "mark") (num mark) (member (codes "result") (string (codes "released")) no_members))
value_of (NumberReleased mark) = object (member (codes "code") (num 73) (member (codes "mark") (num mark) (member (codes "refused") (string (codes "number-released")) no_members)))
value_of (Faulty fault) =
    object (member (codes "code") (num (kind_code_of fault.kind)) (member (codes "refused") (string (kind_name_of fault.kind)) (member (codes "row") (num fault.row) no_members)))

-- JSON escapes none of these characters, because all of them may occur in names
abbrev pub IsPlain : List ℕ → Type 0
IsPlain xs = list_all is_name_char xs ≡ true
