-- The blocks that drive a net and those at which it is wanted, by net.
use Rattle.std.specs.Prelude.{ℕ, ◌≡◌, ◌<◌, ◌++◌, ◌||◌, Bool, List, [], ◌∷◌, Some, filter, length, map, option_map, slice_get, slice_index_or, if◌then◌else◌}
use Rattle.std.specs.List.{enumerate_from, flat_map}
use Rattle.std.specs.Option.{option_to_list}
use Rattle.layout_check.specs.Prelude.{Arch, drives, wants, LaidBlock, LaidNet, sink_at, Node}
use Rattle.layout_check.specs.declared.net_blocks.NetBlocks.{NetBlocks}
use Rattle.layout_check.specs.declared.net_blocks.NetLists.{NetLists}
use Rattle.layout_check.specs.Marks.{is_in}

-- the list with this number
abbrev pub list_at : List (List ℕ) → ℕ → List ℕ
list_at lists number = slice_index_or lists number []

-- the numbers of the blocks that pass the test, in order
abbrev pub numbers_of : (LaidBlock → Bool) → List LaidBlock → List ℕ
numbers_of test blocks = map (λ block. block.0) (filter (λ block. test block.1) (enumerate_from 0 blocks))

-- for each net below the count, the list has the numbers of the blocks that pass its test
pub record AreListsOf (test : ℕ → LaidBlock → Bool) (blocks : List LaidBlock) (count : ℕ) (lists : List (List ℕ)) : Type 0 where
  pub long : length lists ≡ count
  pub each : (net : ℕ) → net < count → list_at lists net ≡ numbers_of (test net) blocks

-- the blocks of a layout by net, for each net that has an entry
pub record AreBlocksOf (arch : Arch) (blocks : List LaidBlock) (nets : List LaidNet) (index : NetBlocks) : Type 0 where
  pub drivers : AreListsOf drives blocks (length index.drivers) index.drivers
  pub readers : AreListsOf (wants arch) blocks (length index.drivers) index.readers
  pub within : (k : ℕ) (laid : LaidNet) → slice_get nets k ≡ Some laid → laid.net < length index.drivers

-- the sink of the block with this number, if there is one
abbrev pub sink_of_number : List LaidBlock → ℕ → List Node
sink_of_number blocks number = option_to_list (option_map (λ laid. sink_at laid.block laid.place) (slice_get blocks number))

-- the sinks of the blocks with these numbers
abbrev pub sinks_at : List LaidBlock → List ℕ → List Node
sinks_at blocks numbers = flat_map (sink_of_number blocks) numbers

-- Private: compared with the old lists, the number was added to the lists of the nets in the set
abbrev pub AreNoted : ℕ → ℕ → List Bool → List (List ℕ) → List (List ℕ) → Type 0
AreNoted number count marks old new = (net : ℕ) → net < count → list_at new net ≡ list_at old net ++ (if is_in marks net then number ∷ [] else [])

-- Private: the nets that pass the test were added to the set, and the number to the lists of those
-- that are new in it
pub record IsNoted (number count : ℕ) (test : ℕ → Bool) (before after : List Bool) (old new : List (List ℕ)) : Type 0 where
  pub long : length new ≡ count
  pub marked : length after ≡ count
  pub exact : (net : ℕ) → net < count → is_in after net ≡ (is_in before net || test net)
  pub noted : (start : List (List ℕ)) → AreNoted number count before start old → AreNoted number count after start new

-- Private: the same of lists that are filled
abbrev pub NotesIn : ℕ → ℕ → (ℕ → Bool) → NetLists → NetLists → Type 0
NotesIn number count test old new = IsNoted number count test old.marks new.marks old.lists new.lists

-- Private: they are for this number of nets
pub record HaveRoom (count : ℕ) (found : NetLists) : Type 0 where
  pub marks : length found.marks ≡ count
  pub lists : length found.lists ≡ count
