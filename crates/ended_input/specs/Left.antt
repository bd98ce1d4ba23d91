-- What is left of an input that ends at its first line `op end`.
use Rattle.std.specs.Prelude.{ℕ, List, Option, option_map}
use Rattle.ended_input.specs.declared.until_end.UntilEnd.{UntilEnd}
use Rattle.ended_input.specs.UntilEnd.{left_of}

-- what is left, if it is known
abbrev pub input_left : {S : Type 0} → (S → Option (List ℕ)) → UntilEnd S → Option (List ℕ)
input_left remaining s = option_map (left_of s.is_over s.at_start s.held.count) (remaining s.source)
