-- Lines of words.
use Rattle.std.specs.Prelude.{ℕ, List, [], ◌∷◌, ◌++◌}
use Rattle.std.specs.List.{flat_map}

-- a word with a space before it
abbrev pub word_after_space : List ℕ → List ℕ
word_after_space word = 32 ∷ word

-- a line: its words, separated by single spaces and ended by LF
abbrev pub line_of : List (List ℕ) → List ℕ
line_of [] = 10 ∷ []
line_of (word ∷ words) = word ++ (flat_map word_after_space words ++ 10 ∷ [])

-- a text: its lines in order
abbrev pub text_of : List (List (List ℕ)) → List ℕ
text_of lines = flat_map line_of lines
