-- Options with a number that may be left out.
use Rattle.std.specs.Prelude.{ℕ, ◌≡◌, List, Option, Some, None}
use Rattle.option_words.specs.declared.given.Given.{Given}
use Rattle.option_words.specs.Values.{number_of, text_of}

-- the number is that of the option, or there is none and the option is not given
abbrev pub IsNumberIn : Given → List ℕ → Option ℕ → Type 0
IsNumberIn given name None = text_of given name ≡ None
IsNumberIn given name (Some number) = number_of 32 given name ≡ Some number
