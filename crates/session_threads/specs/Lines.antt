-- Private: a line whose bytes may not fit in memory. Its head shows what it asks.
use Rattle.std.specs.Prelude.{ℕ, ◌≡◌, ◌⊎◌, ◌≤◌, List, length, Bool, false, not}
use Rattle.std.specs.List.{list_any}
use Rattle.session_threads.specs.Prelude.{is_blank}

-- what is kept of a line: its head; and its bytes, unless memory ran out for them
pub record LineSoFar : Type 0 where
  pub head : List ℕ
  pub bytes : List ℕ
  pub is_lost : Bool

-- whether a line has a word
abbrev pub has_word : List ℕ → Bool
has_word line = list_any (λ byte. not (is_blank byte)) line

-- the head is the line; or both are too long for a command, even if a CR ends them, and both have
-- words or neither has
abbrev pub IsHead : List ℕ → List ℕ → Type 0
IsHead head line = (head ≡ line) ⊎ ((4098 ≤ length head) × (4098 ≤ length line) × (has_word head ≡ has_word line))

-- this is kept of that line
pub record IsLine (kept : LineSoFar) (line : List ℕ) : Type 0 where
  pub head : IsHead kept.head line
  pub bytes : kept.is_lost ≡ false → kept.bytes ≡ line
