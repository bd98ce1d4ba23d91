-- Private: the latches that come before a table.
use Rattle.std.specs.Prelude.{ℕ, Bool, nat_lt}
use Rattle.ble_cluster.specs.Prelude.{Latch}

-- the latch is above the line
abbrev pub is_above : ℕ → Latch → Bool
is_above line latch = nat_lt latch.line line
