-- Defines the flaw of a message that has a route but no request: the first test that it fails (this
-- project's profile).
use Rattle.std.specs.Prelude.{ℕ, ◌-◌, ◌^◌, ◌&&◌, Bool, true, not, if◌then◌else◌, List, [], ◌∷◌, bytes_eq, codes, is_some, Option, Some, None, option_and_then}
use Rattle.std.specs.List.{find, list_any}
use Rattle.serde_json.specs.Data.{Data}
use Rattle.serde_json.specs.Find.{get}
use Rattle.http_messages.specs.Flaws.{name_of}
use Rattle.http_messages.specs.declared.flaw.Flaw.{Flaw}
use Rattle.http_messages.specs.declared.flaw.Flaw.TheVariants as flaw
use Rattle.http_messages.specs.declared.flaw.Member.{Member}
use Rattle.http_messages.specs.declared.flaw.Member.TheVariants as m
use Rattle.http_requests.specs.Bodies.{object_in}
use Rattle.http_requests.specs.Members.{name_at, text_at}
use Rattle.http_requests.specs.Requests.{flag_at, number_within, serial_at, session_in, word_in}

-- ---- members

-- the members of the request with the word `word` of `do`
unfoldable pub members_of : List ℕ → Option (List Member)
members_of word =
    if bytes_eq word (codes "product") then Some (m.Do ∷ m.Product ∷ m.Max ∷ m.Low ∷ m.Check ∷ [])
    else if bytes_eq word (codes "lot") then Some (m.Do ∷ m.Lot ∷ m.Product ∷ m.First ∷ m.Count ∷ [])
    else if bytes_eq word (codes "open") then Some (m.Do ∷ m.Batch ∷ m.Blank ∷ [])
    else if bytes_eq word (codes "answer") then Some (m.Do ∷ m.Session ∷ m.Index ∷ m.Sw ∷ [])
    else if bytes_eq word (codes "abort") then Some (m.Do ∷ m.Session ∷ [])
    else if bytes_eq word (codes "reset") then Some (m.Do ∷ [])
    else if bytes_eq word (codes "discard") then Some (m.Do ∷ m.Blank ∷ [])
    else if bytes_eq word (codes "remake") then Some (m.Do ∷ m.Batch ∷ m.Record ∷ [])
    else if bytes_eq word (codes "withdraw") then Some (m.Do ∷ m.Batch ∷ m.Record ∷ [])
    else if bytes_eq word (codes "close") then Some (m.Do ∷ m.Batch ∷ [])
    else if bytes_eq word (codes "release") then Some (m.Do ∷ m.Upto ∷ [])
    else None

-- all members, in alphabetical order
abbrev pub all_members : List Member
all_members = m.Batch ∷ m.Blank ∷ m.Check ∷ m.Count ∷ m.Do ∷ m.First ∷ m.Index ∷ m.Lot ∷ m.Low ∷ m.Max ∷ m.Product ∷ m.Record ∷ m.Session ∷ m.Sw ∷ m.Upto ∷ []

abbrev pub has : Data → Member → Bool
has d member = is_some (get (name_of member) d)

-- the value of the member is in its range; the value of `do` has a row of members
abbrev pub is_valid : Data → Member → Bool
is_valid d m.Do = true
is_valid d m.Batch = is_some (name_at (codes "batch") d)
is_valid d m.Blank = is_some (serial_at (codes "blank") d)
is_valid d m.Check = is_some (flag_at (codes "check") d)
is_valid d m.Count = is_some (number_within 1 1000000 (codes "count") d)
is_valid d m.First = is_some (serial_at (codes "first") d)
is_valid d m.Index = is_some (number_within 0 (2 ^ 32 - 1) (codes "index") d)
is_valid d m.Lot = is_some (name_at (codes "lot") d)
is_valid d m.Low = is_some (number_within 0 31 (codes "low") d)
is_valid d m.Max = is_some (number_within 16 255 (codes "max") d)
is_valid d m.Product = is_some (name_at (codes "product") d)
is_valid d m.Record = is_some (name_at (codes "record") d)
is_valid d m.Session = is_some (session_in d)
is_valid d m.Sw = is_some (word_in d)
is_valid d m.Upto = is_some (number_within 1 (10 ^ 18 - 1) (codes "upto") d)

-- the member is missing, or its value is invalid
abbrev pub is_wrong : Data → Member → Bool
is_wrong d member = not (has d member && is_valid d member)

-- `d` has the member, and it isn't one of `row`
abbrev pub is_additional : Data → List Member → Member → Bool
is_additional d row member = has d member && not (list_any (λ (own : Member). bytes_eq (name_of own) (name_of member)) row)

-- ---- bodies

abbrev pub wrong_flaw : Data → Member → Flaw
wrong_flaw d member = if has d member then flaw.Value member else flaw.Missing member

-- the flaw of a request with the first wrong and the first additional member; if there's neither,
-- the last serial of a lot is too large
abbrev pub flaw_by : Data → Option Member → Option Member → Flaw
flaw_by d (Some wrong) additional = wrong_flaw d wrong
flaw_by d None (Some additional) = flaw.Additional additional
flaw_by d None None = flaw.Value m.Count

abbrev pub row_flaw : Data → Option (List Member) → Flaw
row_flaw d None = wrong_flaw d m.Do
row_flaw d (Some row) = flaw_by d (find (is_wrong d) row) (find (is_additional d row) all_members)

-- the flaw of an object that isn't a request
abbrev pub object_flaw : Data → Flaw
object_flaw d = row_flaw d (option_and_then members_of (text_at (codes "do") d))

abbrev pub flaw_of_object : Option Data → Flaw
flaw_of_object None = flaw.Body
flaw_of_object (Some d) = object_flaw d

-- the flaw of a body that isn't a request
abbrev pub body_flaw : List ℕ → Flaw
body_flaw body = flaw_of_object (object_in body)

-- ---- paths

-- the flaw of a path with this client and request number, or otherwise the flaw `other`
abbrev pub path_flaw : Option (List ℕ) → Option ℕ → Flaw → Flaw
path_flaw None number other = flaw.PathName
path_flaw (Some client) None other = flaw.PathNumber
path_flaw (Some client) (Some number) other = other
