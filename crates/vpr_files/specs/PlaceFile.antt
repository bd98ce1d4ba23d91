-- The `.place` file of a placed circuit: the place of each block.
use Rattle.std.specs.Prelude.{ℕ, List, [], ◌∷◌, ◌++◌, map, length, codes, decimal}
use Rattle.std.specs.List.{range_with_len}
use Rattle.vpr_files.specs.Prelude.{PackedCircuit, block_name, blocks_of, Strip, Place, block_at, place_of}
use Rattle.vpr_files.specs.TextLines.{text_of}

-- the line of a block at a place: its name, the column, the row, the number among the pads at that
-- end of the column, and its own number
abbrev pub placed_line : PackedCircuit → ℕ → Place → List (List ℕ)
placed_line packed block place =
    block_name packed (block_at packed block) ∷ decimal place.x ∷ decimal place.y ∷ decimal place.subblock ∷ (codes "#" ++ decimal block) ∷ []

-- The bytes of the `.place` file of blocks at these places: the netlist's name, the size of the
-- strip, the headings of the columns, and the lines of the blocks by number.
unfoldable pub place_text_of : Strip → PackedCircuit → List Place → List ℕ
place_text_of strip packed places = text_of (
    (codes "Netlist file:" ∷ (packed.circuit.model ++ codes ".net") ∷ codes "Architecture file: device.arch" ∷ [])
    ∷ (codes "Array size:" ∷ decimal strip.width ∷ codes "x" ∷ decimal strip.rows ∷ codes "logic blocks" ∷ []) ∷ []
    ∷ (codes "#block name x y subblk block number" ∷ []) ∷ (codes "#---------- - - ------ ------------" ∷ [])
    ∷ map (λ block. placed_line packed block (place_of places block)) (range_with_len 0 (length (blocks_of packed))))
