-- Private: a divisor, and 2^32 divided by it.
use Rattle.std.specs.Prelude.{ℕ, ◌≡◌, ◌/◌, ◌<◌, ◌^◌}

-- the second number is 2^32 divided by the first, rounded down; with 0 it says nothing
abbrev pub IsInverse : ℕ → ℕ → Type 0
IsInverse by inverse = 0 < by → inverse ≡ 2 ^ 32 / by
