-- The whole lines that a log's file begins with.
use Rattle.std.specs.Prelude.{ℕ, ◌+◌, ◌==◌, List, [], ◌∷◌, if◌then◌else◌}

-- the number of bytes up to the last LF, with it
abbrev pub whole_bytes : List ℕ → ℕ
whole_bytes [] = 0
whole_bytes (byte ∷ bytes) = if whole_bytes bytes == 0 then (if byte == 10 then 1 else 0) else whole_bytes bytes + 1
