-- Lines in the order of their numbers.
use Rattle.std.specs.Prelude.{ℕ, ◌+◌, ◌≤◌, List, [], ◌∷◌, ⊤}
use Rattle.line_text.specs.Lines.{JoinedLine}

-- the lines have increasing numbers, all at least this one
abbrev pub RisesFrom : ℕ → List JoinedLine → Type 0
RisesFrom low [] = ⊤
RisesFrom low (line ∷ lines) = (low ≤ line.number) × RisesFrom (line.number + 1) lines
