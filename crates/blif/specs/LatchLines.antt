-- The words of a latch's line: its input, its output, optionally its type and control, optionally
-- its initial value.
use Rattle.std.specs.Prelude.{ℕ, Bool, true, false, ◌&&◌, ◌||◌, ◌==◌, List, [], ◌∷◌, Option, None, Some, codes, if◌then◌else◌}
use Rattle.std.specs.Str.{bytes_eq}

-- falling edge, rising edge, active high, active low, or asynchronous
abbrev pub is_type : List ℕ → Bool
is_type word = bytes_eq word (codes "fe") || (bytes_eq word (codes "re") || (bytes_eq word (codes "ah") || (bytes_eq word (codes "al") || bytes_eq word (codes "as"))))

-- 0, 1, don't care, or unknown
abbrev pub is_init : List ℕ → Bool
is_init (byte ∷ []) = (byte == 48) || ((byte == 49) || ((byte == 50) || (byte == 51)))
is_init word = false

-- two to five words of the right form
abbrev pub is_latch : List (List ℕ) → Bool
is_latch (input ∷ output ∷ []) = true
is_latch (input ∷ output ∷ init ∷ []) = is_init init
is_latch (input ∷ output ∷ type ∷ control ∷ []) = is_type type
is_latch (input ∷ output ∷ type ∷ control ∷ init ∷ []) = is_type type && is_init init
is_latch args = false

-- the net that controls the latch, unless it is NIL
abbrev pub control_of : List (List ℕ) → Option (List ℕ)
control_of (input ∷ output ∷ type ∷ control ∷ words) = if bytes_eq control (codes "NIL") then None else Some control
control_of args = None
