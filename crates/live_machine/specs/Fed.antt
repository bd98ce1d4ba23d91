-- Bytes that are lines.
use Rattle.std.specs.Prelude.{ℕ, ◌≡◌, List}
use Rattle.std.specs.List.{flat_map}
use Rattle.live_machine.specs.Prelude.{physical_lines, with_feed}

-- each line is ended by LF
abbrev pub IsFed : List ℕ → Type 0
IsFed bytes = bytes ≡ flat_map with_feed (physical_lines bytes)
