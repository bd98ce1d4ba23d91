-- The offsets of nodes in their columns.
use Rattle.fabric_planes.proofs.Prelude.{ℕ, ◌+◌, ◌<◌, ◌≤◌, arith, NodeKind, Source, Sink, Opin, Ipin, ChanX, ChanY, rank_of, Basis, pins_of, band_of, level_at, upright_at, stride_of, in_column, place_count}

-- the first offset of a kind, and the one after the last
abbrev pub low_of : Basis → NodeKind → ℕ
low_of basis Source = 0
low_of basis Sink = 1
low_of basis Opin = 2
low_of basis Ipin = 2 + pins_of basis
low_of basis ChanX = level_at basis
low_of basis ChanY = upright_at basis

abbrev pub high_of : Basis → NodeKind → ℕ
high_of basis Source = 1
high_of basis Sink = 2
high_of basis Opin = 2 + pins_of basis
high_of basis Ipin = level_at basis
high_of basis ChanX = level_at basis + band_of basis
high_of basis ChanY = upright_at basis + band_of basis

pub below_stride : (basis : Basis) (kind : NodeKind) → high_of basis kind ≤ stride_of basis
below_stride basis kind = grind arith

-- kinds are in order
pub kinds_apart : (basis : Basis) (ka kb : NodeKind) → rank_of ka < rank_of kb → high_of basis ka ≤ low_of basis kb
kinds_apart basis ka kb l = grind arith

-- columns are in order
pub columns_apart : (basis : Basis) (x y p q : ℕ) → x < y → p < stride_of basis → in_column basis x p < in_column basis y q
columns_apart basis x y p q l b = grind arith

-- each place of a strip's column is one of its places
pub place_below : (basis : Basis) (x p : ℕ) → x ≤ basis.strip.width → p < stride_of basis → in_column basis x p < place_count basis
place_below basis x p l b = grind arith
