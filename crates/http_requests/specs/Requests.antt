-- Defines requests in JSON (RFC 8259). The members of each request and their ranges are this
-- project's profile.
use Rattle.std.specs.Prelude.{ℕ, ◌-◌, ◌+◌, ◌^◌, ◌==◌, ◌&&◌, nat_le, suc, if◌then◌else◌, Bool, List, bytes_eq, codes, Option, Some, None, option_map, option_and_then}
use Rattle.std.specs.Str.Parse.{digits_value}
use Rattle.text_io.specs.Numbers.{is_word}
use Rattle.serde_json.specs.Data.{Data, Members, no_members, member}
use Rattle.serde_json.specs.Find.{get, as_bool, as_object}
use Rattle.job_facts.specs.declared.facts.Lot.{Lot}
use Rattle.job_facts.specs.declared.request.Call.{Call}
use Rattle.job_facts.specs.declared.request.Call.TheVariants.{Job, Release}
use Rattle.job_facts.specs.declared.request.Request.{Request}
use Rattle.job_facts.specs.declared.request.Request.TheVariants as request
use Rattle.http_requests.specs.Members.{passing, name_at, number_at, text_at, value_in}

-- ---- results from several values, if all of these exist

abbrev pub with_two : {A B T : Type 0} → (A → B → T) → Option A → Option B → Option T
with_two made a b = option_and_then (λ x. option_map (made x) b) a

abbrev pub with_three : {A B C T : Type 0} → (A → B → C → T) → Option A → Option B → Option C → Option T
with_three made a b c = option_and_then (λ x. with_two (made x) b c) a

abbrev pub with_four : {A B C D T : Type 0} → (A → B → C → D → T) → Option A → Option B → Option C → Option D → Option T
with_four made a b c d = option_and_then (λ x. with_three (made x) b c d) a

-- ---- members

-- the number of members of an object; a name that is given twice counts once
abbrev pub count_of : Members → ℕ
count_of no_members = 0
count_of (member key d more) = suc (count_of more)

abbrev pub count_in : Data → Option ℕ
count_in d = option_map count_of (as_object d)

unfoldable pub flag_at : List ℕ → Data → Option Bool
flag_at key d = option_and_then as_bool (get key d)

abbrev pub is_within : ℕ → ℕ → ℕ → Bool
is_within least most n = nat_le least n && nat_le n most

-- the number in the member `key`, if it is in the range `least` to `most`
unfoldable pub number_within : ℕ → ℕ → List ℕ → Data → Option ℕ
number_within least most key d = option_and_then (passing (is_within least most)) (number_at key d)

-- a serial or a session number has at most 18 digits
abbrev pub serial_at : List ℕ → Data → Option ℕ
serial_at key d = number_within 0 (10 ^ 18 - 1) key d

abbrev pub session_in : Data → Option ℕ
session_in d = number_within 1 (10 ^ 18 - 1) (codes "session") d

unfoldable pub word_in : Data → Option ℕ
word_in d = option_map (digits_value 16) (option_and_then (passing is_word) (text_at (codes "sw") d))

-- ---- requests and their members

unfoldable pub product_in : Data → Option Request
product_in d =
    with_four (λ code max low check. request.Product (record { code = code; max = max; low = low; check = check }))
    (name_at (codes "product") d) (number_within 16 255 (codes "max") d) (number_within 0 31 (codes "low") d) (flag_at (codes "check") d)

-- the last serial of the lot also has at most 18 digits
abbrev pub is_lot : Lot → Bool
is_lot l = nat_le (l.first + l.count) (10 ^ 18)

unfoldable pub lot_in : Data → Option Request
lot_in d =
    option_map request.Lot (option_and_then (passing is_lot)
    (with_four (λ name product first count. record { name = name; product = product; first = first; count = count })
    (name_at (codes "lot") d) (name_at (codes "product") d) (serial_at (codes "first") d) (number_within 1 1000000 (codes "count") d)))

unfoldable pub open_in : Data → Option Request
open_in d = with_two (λ batch blank. request.Open batch blank) (name_at (codes "batch") d) (serial_at (codes "blank") d)

unfoldable pub answer_in : Data → Option Request
answer_in d =
    with_three (λ session index sw. request.Answer session index sw)
    (session_in d) (number_within 0 (2 ^ 32 - 1) (codes "index") d) (word_in d)

unfoldable pub abort_in : Data → Option Request
abort_in d = option_map (λ session. request.Abort session) (session_in d)

unfoldable pub discard_in : Data → Option Request
discard_in d = option_map (λ blank. request.Discard blank) (serial_at (codes "blank") d)

unfoldable pub remake_in : Data → Option Request
remake_in d = with_two (λ batch rec. request.Remake batch rec) (name_at (codes "batch") d) (name_at (codes "record") d)

unfoldable pub withdraw_in : Data → Option Request
withdraw_in d = with_two (λ batch rec. request.Withdraw batch rec) (name_at (codes "batch") d) (name_at (codes "record") d)

unfoldable pub close_in : Data → Option Request
close_in d = option_map (λ batch. request.Close batch) (name_at (codes "batch") d)

-- the request with the word of `do` and `count` members, `do` included; an additional member makes
-- a request invalid
unfoldable pub request_by_word : List ℕ → ℕ → Data → Option Request
request_by_word word count d =
    if bytes_eq word (codes "product") && (count == 5) then product_in d
    else if bytes_eq word (codes "lot") && (count == 5) then lot_in d
    else if bytes_eq word (codes "open") && (count == 3) then open_in d
    else if bytes_eq word (codes "answer") && (count == 4) then answer_in d
    else if bytes_eq word (codes "abort") && (count == 2) then abort_in d
    else if bytes_eq word (codes "reset") && (count == 1) then Some request.Reset
    else if bytes_eq word (codes "discard") && (count == 2) then discard_in d
    else if bytes_eq word (codes "remake") && (count == 3) then remake_in d
    else if bytes_eq word (codes "withdraw") && (count == 3) then withdraw_in d
    else if bytes_eq word (codes "close") && (count == 2) then close_in d
    else None

-- ---- calls

-- the release of the client's numbers up to `upto`
unfoldable pub release_in : Data → Option Call
release_in d = option_map Release (number_within 1 (10 ^ 18 - 1) (codes "upto") d)

unfoldable pub call_by_word : List ℕ → ℕ → Data → Option Call
call_by_word word count d =
    if bytes_eq word (codes "release") && (count == 2) then release_in d
    else option_map Job (request_by_word word count d)

unfoldable pub call_of_value : Data → Option Call
call_of_value d = option_and_then (λ word. option_and_then (λ count. call_by_word word count d) (count_in d)) (text_at (codes "do") d)

-- the call in a body
unfoldable pub call_in : List ℕ → Option Call
call_in body = option_and_then call_of_value (value_in body)
