-- Defines the paths that the server serves (this project's profile).
use Rattle.std.specs.Prelude.{ℕ, ◌==◌, ◌&&◌, Bool, nat_lt, if◌then◌else◌, List, [], ◌∷◌, length, bytes_eq, codes, Option, Some, None}
use Rattle.std.specs.List.{list_all}
use Rattle.std.specs.Str.{is_utf8}
use Rattle.http_messages.specs.declared.reply.Method.{Method}
use Rattle.http_messages.specs.declared.reply.Method.TheVariants.{Get, Post}

-- the parts of a path that the server serves
pub data Route : Type 0 where
  Job : (client number : List ℕ) → Route
  Import : (client number batch product : List ℕ) → Route
  Batch : (batch : List ℕ) → Route
  Report : (batch : List ℕ) → Route
  Blanks : (product : List ℕ) → Route

-- the segments with the byte `b` before the first one
abbrev pub led : ℕ → List (List ℕ) → List (List ℕ)
led b [] = (b ∷ []) ∷ []
led b (part ∷ parts) = (b ∷ part) ∷ parts

-- the segments of a text, which are separated by slashes
abbrev pub parts : List ℕ → List (List ℕ)
parts [] = [] ∷ []
parts (b ∷ text) = if b == 47 then [] ∷ parts text else led b (parts text)

-- the route with these segments after the first slash
abbrev pub route_by : List (List ℕ) → Option Route
route_by (a ∷ b ∷ []) =
    if bytes_eq a (codes "batch") then Some (Batch b)
    else if bytes_eq a (codes "blanks") then Some (Blanks b)
    else None
route_by (a ∷ b ∷ c ∷ []) =
    if bytes_eq a (codes "c") then Some (Job b c)
    else if bytes_eq a (codes "batch") && bytes_eq c (codes "report") then Some (Report b)
    else None
route_by (a ∷ b ∷ c ∷ d ∷ e ∷ f ∷ []) = if bytes_eq a (codes "c") && bytes_eq d (codes "batch") then Some (Import b c e f) else None
route_by others = None

abbrev pub has_no_empty : List (List ℕ) → Bool
has_no_empty parts = list_all (λ (part : List ℕ). nat_lt 0 (length part)) parts

abbrev pub route_among : List (List ℕ) → Option Route
route_among parts = if has_no_empty parts then route_by parts else None

-- the route of a path, which must begin with a slash and be UTF-8; the path of a valid head is
-- always UTF-8
unfoldable pub route_in : List ℕ → Option Route
route_in [] = None
route_in (b ∷ rest) = if b == 47 && is_utf8 rest then route_among (parts rest) else None

abbrev pub method_of : Route → Method
method_of (Job client number) = Post
method_of (Import client number batch product) = Post
method_of (Batch batch) = Get
method_of (Report batch) = Get
method_of (Blanks product) = Get
