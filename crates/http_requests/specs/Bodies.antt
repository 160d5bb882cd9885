-- Defines the part of a JSON body (RFC 8259) that its request depends on: an object whose members
-- have known names. RFC 8259 calls strings, numbers, booleans and null primitive values, and arrays
-- and objects structured values. The names of the members are this project's profile.
use Rattle.std.specs.Prelude.{ℕ, List, [], ◌∷◌, Bool, true, false, ◌&&◌, if◌then◌else◌, bytes_eq, codes, length, Option, Some, None, option_map, option_and_then}
use Rattle.std.specs.List.{list_any}
use Rattle.json.specs.Token.{Token, begin_object}
use Rattle.json.specs.Json as json
use Rattle.serde_json.specs.Data.{Data, null, boolean, number, string, array, object, Items, Members, no_members, member}
use Rattle.serde_json.specs.Find.{as_object}
use Rattle.serde_json.specs.Read.{converted, of_items, of_json, of_members}
use Rattle.serde_json.specs.View.{number_view}
use Rattle.http_requests.specs.Members.{value_in}
use Rattle.http_requests.specs.declared.body.Primitive.{Primitive}
use Rattle.http_requests.specs.declared.body.Primitive.TheVariants as primitive

-- ---- bodies

-- the names of all members of all requests
abbrev pub member_names : List (List ℕ)
member_names =
    codes "do" ∷ codes "batch" ∷ codes "blank" ∷ codes "check" ∷ codes "count" ∷ codes "first" ∷ codes "index" ∷ codes "lot" ∷ codes "low" ∷ codes "max" ∷ codes "product" ∷ codes "record"
    ∷ codes "session" ∷ codes "sw" ∷ codes "upto" ∷ []

unfoldable pub is_member_name : List ℕ → Bool
is_member_name name = list_any (bytes_eq name) member_names

-- each member has the name of a member of a request
abbrev pub are_known : Members → Bool
are_known no_members = true
are_known (member name d more) = is_member_name name && are_known more

-- `d`, or null if `d` is structured
abbrev pub primitive_of : Data → Data
primitive_of null = null
primitive_of (boolean b) = boolean b
primitive_of (number n) = number n
primitive_of (string s) = string s
primitive_of (array ds) = null
primitive_of (object ms) = null

-- the members, with each structured value replaced by null
abbrev pub primitives_of : Members → Members
primitives_of no_members = no_members
primitives_of (member name d more) = member name (primitive_of d) (primitives_of more)

unfoldable pub known_primitives : Members → Option Members
known_primitives ms = if are_known ms then Some (primitives_of ms) else None

-- the object in `body`, with each structured value replaced by null, if all its names are known: no
-- request has another member, or a structured value
unfoldable pub object_in : List ℕ → Option Data
object_in body = option_map object (option_and_then known_primitives (option_and_then as_object (value_in body)))

-- ---- tokens

-- the value at the beginning of `tokens`, whose structured values nest at most `depth` deep, and
-- the tokens after it
unfoldable pub value_at : ℕ → List Token → Option (Data × List Token)
value_at depth tokens = converted of_json (json.value depth tokens)

-- the values of an array up to the bracket that closes it, and the tokens after it
unfoldable pub items_at : ℕ → List Token → Option (Items × List Token)
items_at depth tokens = converted of_items (json.items (json.value depth) (length tokens) tokens)

-- the members of an object up to the brace that closes it, and the tokens after it
unfoldable pub members_at : ℕ → List Token → Option (Members × List Token)
members_at depth tokens = converted (λ ms. of_members ms no_members) (json.members (json.value depth) (length tokens) tokens)

-- an object begins
abbrev pub begins_object : List Token → Bool
begins_object (begin_object ∷ tokens) = true
begins_object tokens = false

-- ---- values of the code

abbrev pub primitive_view : Primitive → Data
primitive_view primitive.Null = null
primitive_view (primitive.Bool flag) = boolean flag
primitive_view (primitive.Number x) = number (number_view x)
primitive_view (primitive.String text) = string text.now
