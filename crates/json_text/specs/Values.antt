-- Values of JSON by lists of members and items, and their text.
use Rattle.std.specs.Prelude.{ℕ, List, [], ◌∷◌, ◌++◌, Option, Some, None, codes, decimal, if◌then◌else◌}
use Rattle.std.specs.Borrow.{Bor}
use Rattle.std.specs.Str.{is_utf8}
use Rattle.json.specs.Json.{Json, null, number, string, array, object, Items, no_items, item, Members, no_members, member}
use Rattle.json.specs.Layout.{pretty}
use Rattle.json.specs.Token.{Token, key}
use Rattle.json.specs.Tree.{json_tokens}
use Rattle.json_text.specs.declared.pen.Scalar.{Scalar}
use Rattle.json_text.specs.declared.pen.Scalar.TheVariants.{Null, Number, Known, Text, Name}

abbrev pub items_of : List Json → Items
items_of [] = no_items
items_of (one ∷ rest) = item one (items_of rest)

abbrev pub members_of : List (List ℕ × Json) → Members
members_of [] = no_members
members_of (one ∷ rest) = member one.0 one.1 (members_of rest)

-- an array of these values, and an object with these members, in order
abbrev pub list_of : List Json → Json
list_of values = array (items_of values)

abbrev pub object_of : List (List ℕ × Json) → Json
object_of members = object (members_of members)

abbrev pub number_of : ℕ → Json
number_of count = number (decimal count)

-- the number, if it is known
abbrev pub known_number : Option ℕ → Json
known_number (Some count) = number_of count
known_number None = null

-- the bytes of a name; `?` if they are not UTF-8
abbrev pub readable : List ℕ → List ℕ
readable bytes = if is_utf8 bytes then bytes else codes "?"

abbrev pub name_of : List ℕ → Json
name_of bytes = string (readable bytes)

-- a value that is no list and no object
abbrev pub scalar_json : Scalar → Json
scalar_json Null = null
scalar_json (Number count) = number_of count
scalar_json (Known count) = known_number count
scalar_json (Text text) = string text.now
scalar_json (Name bytes) = name_of bytes.now

abbrev pub member_of : Bor (List ℕ) × Scalar → List ℕ × Json
member_of one = (one.0.now, scalar_json one.1)

-- the tokens of a member
abbrev pub member_tokens : List ℕ × Json → List Token
member_tokens one = key one.0 ∷ json_tokens one.1

-- the text of these tokens: a line for each item and each member
abbrev pub tokens_text : List Token → List ℕ
tokens_text tokens = pretty tokens ++ 10 ∷ []

-- the text of a value
abbrev pub json_text : Json → List ℕ
json_text value = tokens_text (json_tokens value)
