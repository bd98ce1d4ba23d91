-- Where the nodes of a net and the BLEs of a block begin, by the lines of the `.route` and the
-- `.net` file.
use Rattle.std.specs.Prelude.{ℕ, ◌≡◌, ◌+◌, ◌++◌, Bool, true, false, List, [], ◌∷◌, map, codes, eqb}
use Rattle.std.specs.List.{list_any, starts_with}
use Rattle.strip_files.specs.Prelude.{physical_lines}
use Rattle.strip_files.specs.NodeLines.{is_node_line}
use Rattle.strip_files.specs.declared.block.ListedBlock.{ListedBlock}
use Rattle.strip_files.specs.declared.block.PlacedBlock.{PlacedBlock}
use Rattle.strip_files.specs.declared.route_text.Net.{Net}

-- whether a line is the first one of a net
abbrev pub is_net_line : List ℕ → Bool
is_net_line line = starts_with eqb line (codes "Net ")

-- whether a line is that of a BLE
abbrev pub is_element_line : List ℕ → Bool
is_element_line line = starts_with eqb line (codes "subblock: ")

-- whether a line is the first one of a block
abbrev pub is_block_line : List ℕ → Bool
is_block_line line = list_any (λ start. starts_with eqb line start) (codes ".input " ∷ codes ".output " ∷ codes ".clb " ∷ [])

-- a line of an item raises the number of items; a head notes it
abbrev pub starts_as : Bool → Bool → ℕ → (ℕ → List ℕ) → List ℕ
starts_as true is_head count later = later (count + 1)
starts_as false true count later = count ∷ later count
starts_as false false count later = later count

-- for each head among the lines the number of items in the lines before it, and `count` others
unfoldable pub starts_of : (List ℕ → Bool) → (List ℕ → Bool) → ℕ → List (List ℕ) → List ℕ
starts_of is_item is_head count [] = []
starts_of is_item is_head count (line ∷ lines) = starts_as (is_item line) (is_head line) count (λ more. starts_of is_item is_head more lines)

abbrev pub net_starts : List ℕ → List ℕ
net_starts text = starts_of is_node_line is_net_line 0 (physical_lines text)

abbrev pub block_starts : List ℕ → List ℕ
block_starts text = starts_of is_element_line is_block_line 0 (physical_lines text)

abbrev pub first_nodes : List Net → List ℕ
first_nodes nets = map (λ net. net.first_node) nets

abbrev pub first_elements : List PlacedBlock → List ℕ
first_elements blocks = map (λ block. block.first_element) blocks

-- each net begins after the nodes of the lines before its line
abbrev pub AreBegun : List ℕ → List Net → Type 0
AreBegun text nets = first_nodes nets ≡ net_starts text

-- each block begins after the BLEs of the lines before its line
abbrev pub AreBlocksBegun : List ℕ → List PlacedBlock → Type 0
AreBlocksBegun text blocks = first_elements blocks ≡ block_starts text

-- private: the same of the blocks that a `.net` file lists
abbrev pub listed_elements : List ListedBlock → List ℕ
listed_elements blocks = map (λ block. block.first_element) blocks

-- private: what a line adds to the number of items, and to what the heads noted
abbrev pub AddsTo : Bool → Bool → ℕ → ℕ → List ℕ → List ℕ → Type 0
AddsTo true is_head old new starts starts' = (new ≡ old + 1) × (starts' ≡ starts)
AddsTo false true old new starts starts' = (new ≡ old) × (starts' ≡ starts ++ old ∷ [])
AddsTo false false old new starts starts' = (new ≡ old) × (starts' ≡ starts)
