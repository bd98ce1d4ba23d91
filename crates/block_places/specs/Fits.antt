-- Whether a packed circuit fits a strip.
use Rattle.std.specs.Prelude.{ℕ, Bool, true, false, length, count_by, nat_lt, if◌then◌else◌}
use Rattle.cluster.specs.declared.block.Block.{Block}
use Rattle.cluster.specs.declared.block.Block.TheVariants.{Cluster}
use Rattle.cluster.specs.Clusters.{PackedCircuit}
use Rattle.cluster.specs.Blocks.{blocks_of}
use Rattle.grid.specs.declared.Strip.{Strip}
use Rattle.grid.specs.declared.place.Kind.{Kind}
use Rattle.grid.specs.declared.place.Kind.TheVariants.{Logic, Pad}
use Rattle.block_places.specs.declared.fit.Fit.{Fit}
use Rattle.block_places.specs.declared.fit.Fit.TheVariants.{Fits, TooManyBlocks, TooManyPads}
use Rattle.grid.specs.Places.{places_of}

-- the kind of place that a block needs
abbrev pub kind_of : Block → Kind
kind_of (Cluster cluster) = Logic
kind_of _ = Pad

-- the two kinds are equal
abbrev pub is_same_kind : Kind → Kind → Bool
is_same_kind Logic Logic = true
is_same_kind Pad Pad = true
is_same_kind _ _ = false

-- the number of blocks that need a place of this kind
abbrev pub block_count : PackedCircuit → Kind → ℕ
block_count packed kind = count_by (λ block. is_same_kind kind (kind_of block)) (blocks_of packed)

-- whether there are places for all blocks. Logic blocks are compared first: the numbers of places
-- and blocks, then those of pad places and pads
unfoldable pub fit_of : Strip → PackedCircuit → Fit
fit_of strip packed =
    if nat_lt (length (places_of strip Logic)) (block_count packed Logic) then TooManyBlocks (length (places_of strip Logic)) (block_count packed Logic)
    else if nat_lt (length (places_of strip Pad)) (block_count packed Pad) then TooManyPads (length (places_of strip Pad)) (block_count packed Pad)
    else Fits

-- Private: whether a block needs a place of this kind
abbrev pub is_for : Kind → Block → Bool
is_for kind block = is_same_kind kind (kind_of block)

-- Private: the comparison of any four numbers
abbrev pub fit_of_counts : ℕ → ℕ → ℕ → ℕ → Fit
fit_of_counts logic_places blocks pad_places pads =
    if nat_lt logic_places blocks then TooManyBlocks logic_places blocks
    else if nat_lt pad_places pads then TooManyPads pad_places pads
    else Fits
