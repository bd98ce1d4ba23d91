-- Where a strip has wires.
use Rattle.std.specs.Prelude.{ℕ, ◌≤◌}
use Rattle.strip_files.specs.Prelude.{NodeKind, Source, Sink, Opin, Ipin, ChanX, ChanY}

-- channels across begin in column 1, and channels up in row 1; the other kinds have no channel
abbrev pub BeginsAt : NodeKind → ℕ → ℕ → Type 0
BeginsAt ChanX x y = 1 ≤ x
BeginsAt ChanY x y = 1 ≤ y
BeginsAt Source x y = ⊥
BeginsAt Sink x y = ⊥
BeginsAt Opin x y = ⊥
BeginsAt Ipin x y = ⊥
