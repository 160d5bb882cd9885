-- The lines of a drill that send a request to the server (this project's profile).
use Rattle.std.specs.Prelude.{ℕ, ◌==◌, ◌&&◌, not, nat_lt, List, ◌++◌, length, bytes_eq, codes, Option, Some, None, option_map, option_and_then, if◌then◌else◌}
use Rattle.std.specs.List.{flat_map, list_any}
use Rattle.store_data.specs.Name.{is_name}
use Rattle.text_io.specs.Lines.{cut, word_of}
use Rattle.wire.specs.Asks.{import_tail}
use Rattle.text_io.specs.Numbers.{is_number}
use Rattle.text_io.specs.Written.{line}
use Rattle.wire.specs.RequestHeads.{request_head}
use Rattle.drill.specs.declared.script.Step.{Step as Parsed}
use Rattle.drill.specs.declared.script.Step.TheVariants as parsed

-- ---- the requests of lines

pub data Step : Type 0 where
  Office : (number body : List ℕ) → Step
  Import : (number batch product : List ℕ) → Step
  Get : (target : List ℕ) → Step

-- a request number and the rest of the line
abbrev pub numbered : List ℕ → Option (List ℕ × List ℕ)
numbered words = option_and_then (λ p. if is_number p.0 then Some p else None) (word_of words)

-- a request number and a body
abbrev pub office_of : List ℕ → Option Step
office_of words = option_map (λ p. Office p.0 p.1) (numbered words)

-- a request number, a batch and a product
abbrev pub named : List ℕ → List ℕ → List ℕ → Option Step
named number batch product = if is_name batch && is_name product then Some (Import number batch product) else None

abbrev pub import_of : List ℕ → Option Step
import_of words = option_and_then (λ p. option_and_then (λ q. named p.0 q.0 q.1) (word_of p.1)) (numbered words)

-- a target, which is one word
abbrev pub target_of : List ℕ → Option Step
target_of words = if nat_lt 0 (length words) && not (list_any (λ b. b == 32) words) then Some (Get words) else None

-- the request of a line with this first word and this rest
abbrev pub step_by : List ℕ → List ℕ → Option Step
step_by word words =
    if bytes_eq word (codes "get") then target_of words
    else if bytes_eq word (codes "office") then office_of words
    else if bytes_eq word (codes "import") then import_of words
    else None

-- ---- the messages (RFC 9112)

-- the POST of the client `office`; `target` is the part of the target after the client
abbrev pub post : List ℕ → List ℕ → List ℕ
post target body = request_head (codes "/c/office/" ++ target) (length body) ++ body

abbrev pub get : List ℕ → List ℕ
get target = codes "GET " ++ target ++ codes " HTTP/1.1\r\nHost: localhost\r\n\r\n"

-- the lines before and after the first line `.`
abbrev pub file_in : List (List ℕ) → Option (List (List ℕ) × List (List ℕ))
file_in behind = cut (λ l. bytes_eq l (codes ".")) behind

-- the message of a request, and the lines after its file; each line of a file ends with LF
abbrev pub asked : Step → List (List ℕ) → Option (List ℕ × List (List ℕ))
asked (Office number body) behind = Some (post number body, behind)
asked (Import number batch product) behind =
    option_map (λ f. (post (number ++ import_tail batch product) (flat_map line f.0), f.1)) (file_in behind)
asked (Get target) behind = Some (get target, behind)

-- ---- the values of the code

abbrev pub shown : Parsed → Step
shown (parsed.Office number body) = Office number.now body.now
shown (parsed.Import number batch product) = Import number.now batch.now product.now
shown (parsed.Get target) = Get target.now
