-- Sizes of a device.
use Rattle.std.specs.Prelude.{ℕ, Bool, false, nat_le, ◌&&◌, Option}
use Rattle.std.specs.Option.{option_map_or}
use Rattle.desk_replies.specs.Prelude.{MAX_TRACKS, MAX_ROWS}

-- 1 to that number
abbrev pub is_size : ℕ → ℕ → Bool
is_size most size = nat_le 1 size && nat_le size most

-- rows and tracks that are known and within the limits
abbrev pub are_sizes : Option ℕ → Option ℕ → Bool
are_sizes rows tracks = option_map_or (is_size MAX_ROWS) rows false && option_map_or (is_size MAX_TRACKS) tracks false
