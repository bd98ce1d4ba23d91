-- The values of a program's options.
use Rattle.std.specs.Prelude.{ℕ, List, Bool, Option, codes, find, option_map, option_and_then, false}
use Rattle.std.specs.Option.{option_map_or}
use Rattle.std.specs.Str.{bytes_eq}
use Rattle.line_text.specs.Decimal.{decimal_of}
use Rattle.option_words.specs.declared.given.Given.{Given}

-- the text of an option
abbrev pub text_of : Given → List ℕ → Option (List ℕ)
text_of given name = option_map (λ value. value.text.now) (find (λ value. bytes_eq value.name.now name) given.values.items)

-- the number of an option that takes a number of this many bits
abbrev pub number_of : ℕ → Given → List ℕ → Option ℕ
number_of bits given name = option_and_then (decimal_of bits) (text_of given name)

-- whether an option without a value is given
abbrev pub is_given : Given → List ℕ → Bool
is_given given name = option_map_or (λ text. bytes_eq text (codes "true")) (text_of given name) false
