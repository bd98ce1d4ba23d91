-- The first lines of the blocks in a `.net` file.
use Rattle.std.specs.Prelude.{ℕ, ◌≡◌, ◌++◌, List, filter, length, map, take, codes}
use Rattle.std.specs.Borrow.{Bor}
use Rattle.std.specs.List.{before_first}
use Rattle.strip_files.specs.Prelude.{physical_lines, texts, is_space}
use Rattle.strip_files.specs.EachLine.{AddsNext, AreEachFrom}
use Rattle.strip_files.specs.Starts.{is_block_line, is_element_line}
use Rattle.strip_files.specs.declared.block.BlockKind.{BlockKind}
use Rattle.strip_files.specs.declared.block.BlockKind.TheVariants.{InputPad, OutputPad, Cluster}
use Rattle.strip_files.specs.declared.block.ListedBlock.{ListedBlock}
use Rattle.strip_files.specs.declared.block.PlacedBlock.{PlacedBlock}

-- the beginning of the line of a block of that kind
abbrev pub block_start : BlockKind → List ℕ
block_start InputPad = codes ".input "
block_start OutputPad = codes ".output "
block_start Cluster = codes ".clb "

-- the word after the beginning is the name of the block
pub record IsBlockLine (line : List ℕ) (kind : BlockKind) (name : List ℕ) : Type 0 where
  pub tail : List ℕ
  pub text : line ≡ block_start kind ++ tail
  pub name_is : name ≡ before_first is_space tail

-- the line of that block
abbrev pub IsLineOfBlock : ℕ → List ℕ → BlockKind × List ℕ → Type 0
IsLineOfBlock number line block = IsBlockLine line block.0 block.1

-- the lines of a text with the beginning of a block's
abbrev pub block_lines : List ℕ → List (List ℕ)
block_lines text = filter is_block_line (physical_lines text)

-- the kinds and the names of blocks
abbrev pub named_blocks : List PlacedBlock → List (BlockKind × List ℕ)
named_blocks blocks = map (λ block. (block.kind, block.name.now)) blocks

-- the blocks are those of the text's lines, in order, with their kinds and names
abbrev pub AreBlocksNamed : List ℕ → List PlacedBlock → Type 0
AreBlocksNamed text blocks = AreEachFrom IsLineOfBlock 0 (block_lines text) (named_blocks blocks)

-- the line of a BLE: the word after the beginning is its name
pub record IsElementLine (line name : List ℕ) : Type 0 where
  pub tail : List ℕ
  pub text : line ≡ codes "subblock: " ++ tail
  pub name_is : name ≡ before_first is_space tail

-- the line of the BLE of that name
abbrev pub IsLineOfElement : ℕ → List ℕ → List ℕ → Type 0
IsLineOfElement number line name = IsElementLine line name

-- the lines of a text with the beginning of a BLE's
abbrev pub element_lines : List ℕ → List (List ℕ)
element_lines text = filter is_element_line (physical_lines text)

-- the BLEs are those of the text's lines, in order, with their names
abbrev pub AreElementsNamed : List ℕ → List (Bor (List ℕ)) → Type 0
AreElementsNamed text elements = AreEachFrom IsLineOfElement 0 (element_lines text) (texts elements)

-- private: the line's BLE is read
abbrev pub IsElementReadOn : List ℕ → List (Bor (List ℕ)) → List (Bor (List ℕ)) → Type 0
IsElementReadOn line old new = AddsNext (is_element_line line) (IsLineOfElement (length (texts old)) line) (texts old) (texts new)

-- private: the same of the blocks that a `.net` file lists
abbrev pub listed_names : List ListedBlock → List (BlockKind × List ℕ)
listed_names blocks = map (λ block. (block.kind, block.name.now)) blocks

-- private: the block as the `.net` file lists it
abbrev pub listed_of : PlacedBlock → ListedBlock
listed_of block = record { kind = block.kind; name = block.name; first_element = block.first_element }

-- private: these are the first of the listed blocks
abbrev pub AreFirst : List ListedBlock → List PlacedBlock → Type 0
AreFirst listed blocks = map listed_of blocks ≡ take (length blocks) listed

-- private: the line's block is read
abbrev pub IsBlockReadOn : List ℕ → List ListedBlock → List ListedBlock → Type 0
IsBlockReadOn line old new = AddsNext (is_block_line line) (IsLineOfBlock (length (listed_names old)) line) (listed_names old) (listed_names new)
