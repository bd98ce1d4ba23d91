use Rattle.strip_files.proofs.Prelude.{ℕ, List, ◌≡◌, ◌++◌, length, physical_lines, texts, IsLineOfBlock, IsLineOfElement, block_lines, element_lines, listed_names, AreEachFrom, BlockKind, block_starts, is_block_line, is_element_line, listed_elements, starts_of}
use Rattle.strip_files.proofs.net_text.Listed.read.Given as goal

-- the first BLEs of the blocks so far, with those of the remaining lines' blocks, are those of all
-- lines, and so are the kinds and names of the blocks, and the names of the BLEs
abbrev pub invariant-loop-rest : goal.invariant-loop-rest
invariant-loop-rest l =
    (listed_elements l.listed.blocks.items ++ starts_of is_element_line is_block_line (length l.listed.elements.items) (physical_lines l.rest) ≡ block_starts l.text)
    × ((more : List (BlockKind × List ℕ)) → AreEachFrom IsLineOfBlock (length (listed_names l.listed.blocks.items)) (block_lines l.rest) more → AreEachFrom IsLineOfBlock 0 (block_lines l.text) (listed_names l.listed.blocks.items ++ more))
    × ((more : List (List ℕ)) → AreEachFrom IsLineOfElement (length (texts l.listed.elements.items)) (element_lines l.rest) more → AreEachFrom IsLineOfElement 0 (element_lines l.text) (texts l.listed.elements.items ++ more))

abbrev pub decreases-loop-rest : goal.decreases-loop-rest
decreases-loop-rest l = length (physical_lines l.rest)
