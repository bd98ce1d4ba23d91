-- The values of a table by its rows, and its bits.
use Rattle.std.specs.Prelude.{ℕ, ◌^◌, ◌/◌, ◌%◌, ◌==◌, ◌||◌, ◌&&◌, Bool, true, false, not, List, [], ◌∷◌, map, if◌then◌else◌}
use Rattle.std.specs.List.{list_any, prefix_len, range_with_len}
use Rattle.blif.specs.Covers.{gives_one}

-- a character of a row agrees with the value of its input: `-` agrees with both
abbrev pub agrees : ℕ → Bool → Bool
agrees byte value = (byte == 45) || (byte == (if value then 49 else 48))

-- each character agrees with the value at its position
abbrev pub all_agree : List ℕ → List Bool → Bool
all_agree [] values = true
all_agree (byte ∷ pattern) [] = true
all_agree (byte ∷ pattern) (value ∷ values) = agrees byte value && all_agree pattern values

-- the row applies at these values of the inputs. It has a pattern and an output; that of a table
-- without inputs has an output alone, and applies
abbrev pub applies : List Bool → List (List ℕ) → Bool
applies values [] = true
applies values (output ∷ []) = true
applies values (pattern ∷ words) = all_agree pattern values

-- the value of the table at these values of its inputs: that of its rows if one of them applies,
-- otherwise the other one. A table without rows is 0
abbrev pub value_of : List (List (List ℕ)) → List Bool → Bool
value_of [] values = false
value_of (row ∷ rows) values = if list_any (applies values) (row ∷ rows) then gives_one row else not (gives_one row)

-- bit j of the number
abbrev pub bit_of : ℕ → ℕ → Bool
bit_of number j = (number / 2 ^ j) % 2 == 1

-- the value of a net if the nets have the values of a number's bits, in order
abbrev pub value_in : List ℕ → ℕ → ℕ → Bool
value_in nets number net = bit_of number (prefix_len (λ other. not (other == net)) nets)

-- the 2^width bits of a table with these rows and inputs: the one at a number is the table's value
-- if the nets have the values of the number's bits
abbrev pub bits_of : ℕ → List (List (List ℕ)) → List ℕ → List ℕ → List Bool
bits_of width rows inputs nets = map (λ number. value_of rows (map (value_in nets number) inputs)) (range_with_len 0 (2 ^ width))

-- the bits of a wire: the value of the first input
abbrev pub wire_bits : ℕ → List Bool
wire_bits width = map (λ number. bit_of number 0) (range_with_len 0 (2 ^ width))
