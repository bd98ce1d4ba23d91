-- Private: nets of blocks, and the nets that a block is on.
use Rattle.std.specs.Prelude.{ℕ, ◌≡◌, ◌+◌, ◌<◌, ◌≤◌, ◌^◌, ◌==◌, List, [], ◌∷◌, ◌++◌, length, count_by, filter, map, not, slice_index, All}
use Rattle.std.specs.List.{slice_index_or}
use Rattle.strip_place.specs.Prelude.{BlockNet, Keyed, items_by_key, pairs_with}

-- the net with this number
abbrev pub net_at : List (List ℕ) → ℕ → List ℕ
net_at nets number = slice_index_or nets number []

-- the number of times that the block occurs on the net
abbrev pub times_on : ℕ → List ℕ → ℕ
times_on block net = count_by (λ other. other == block) net

-- the blocks on a net: its driver, and its readers
abbrev pub blocks_on : BlockNet → List ℕ
blocks_on net = net.driver ∷ net.readers

-- the blocks on each net that is not global
abbrev pub placed_nets : List BlockNet → List (List ℕ)
placed_nets nets = map blocks_on (filter (λ net. not net.global) nets)

-- a net has at least one block, and its block numbers are below the count
pub record IsNetOf (count : ℕ) (net : List ℕ) : Type 0 where
  pub some : 0 < length net
  pub within : All (λ block. block < count) net

-- nets whose block numbers are below the count, with each block at most once
pub record AreNets (count : ℕ) (nets : List (List ℕ)) : Type 0 where
  pub some : (number : ℕ) → number < length nets → 0 < length (net_at nets number)
  pub within : (number : ℕ) → number < length nets → All (λ block. block < count) (net_at nets number)
  pub once : (number block : ℕ) → number < length nets → times_on block (net_at nets number) ≤ 1
  pub short : (number : ℕ) → number < length nets → length (net_at nets number) + 2 < 2 ^ 16
  pub few : length nets < 2 ^ 14

-- the numbers of the nets that the block is on, in increasing order
pub record AreTouched (nets : List (List ℕ)) (block : ℕ) (touched : List ℕ) : Type 0 where
  pub rising : (k j : ℕ) → k < j → j < length touched → slice_index touched k < slice_index touched j
  pub within : (k : ℕ) → k < length touched → slice_index touched k < length nets
  pub on : (k : ℕ) → k < length touched → times_on block (net_at nets (slice_index touched k)) ≡ 1
  pub found : (number : ℕ) → number < length nets → 0 < times_on block (net_at nets number) → (k : ℕ) × (k < length touched) × (slice_index touched k ≡ number)

-- the blocks of nets, each with its net's number, which is counted from `number`
abbrev pub pairs_from : ℕ → List (List ℕ) → List Keyed
pairs_from number [] = []
pairs_from number (net ∷ nets) = pairs_with number net ++ pairs_from (number + 1) nets

-- the numbers of the nets that each block is on
unfoldable pub touching_of : List (List ℕ) → ℕ → List (List ℕ)
touching_of nets blocks = items_by_key (pairs_from 0 nets) blocks
