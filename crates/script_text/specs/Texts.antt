-- Texts within a script.
use Rattle.std.specs.Prelude.{ℕ, List, [], ◌∷◌, ◌++◌, Option, Some, None, option_map, if◌then◌else◌}
use Rattle.script_text.specs.Prelude.{ends_text}

-- the bytes of the lines before the first line that ends a text; `None` if no line does
abbrev pub bytes_ahead : List (List ℕ) → Option (List ℕ)
bytes_ahead [] = None
bytes_ahead (line ∷ lines) = if ends_text line then Some [] else option_map (λ bytes. line ++ 10 ∷ bytes) (bytes_ahead lines)
