-- The files in replies.
use Rattle.std.specs.Prelude.{ℕ, List, drop, Option, Some, None, option_and_then, if◌then◌else◌}
use Rattle.std.specs.Str.{bytes_eq}
use Rattle.printed_replies.specs.Lengths.{line_length, line_of, told_file}

-- the file of that kind in a reply: the bytes after its first line
abbrev pub file_after : List ℕ → List ℕ → ℕ → Option (List ℕ × ℕ) → Option (List ℕ)
file_after kind reply n None = None
file_after kind reply n (Some told) = if bytes_eq told.0 kind then Some (drop n reply) else None

abbrev pub file_in : List ℕ → List ℕ → Option (List ℕ)
file_in kind reply = option_and_then (λ n. file_after kind reply n (told_file (line_of n reply))) (line_length reply)
