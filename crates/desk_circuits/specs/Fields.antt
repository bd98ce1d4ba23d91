-- The fields of tables.
use Rattle.std.specs.Prelude.{ℕ, ◌==◌, if◌then◌else◌, List, [], ◌∷◌, ◌++◌, codes, decimal, Option, Some, None}
use Rattle.std.specs.List.{concat, flat_map}

-- a quote is written twice
abbrev pub doubled_quote : ℕ → List ℕ
doubled_quote byte = if byte == 34 then codes "\"\"" else byte ∷ []

abbrev pub quote : List ℕ
quote = codes "\""

-- the bytes in quotes
abbrev pub quoted_field : List ℕ → List ℕ
quoted_field bytes = quote ++ (flat_map doubled_quote bytes ++ quote)

-- numbers, each after a comma
abbrev pub number_field : ℕ → List ℕ
number_field number = concat (codes "," ∷ decimal number ∷ [])

abbrev pub number_fields : List ℕ → List ℕ
number_fields numbers = flat_map number_field numbers

-- a number that may not be known: its field is then empty
abbrev pub known_field : Option ℕ → List ℕ
known_field (Some number) = number_fields (number ∷ [])
known_field None = concat (codes "," ∷ [])
