use Rattle.layout_files.proofs.Prelude.{◌≡◌, ◌≤◌, List, ℕ, All, ◌∷◌, ◌++◌, map, Some, length, Arch, Circuit, LaidBle, ble_line, line_of, text_of, size, FitsBle, HasFileNames}
use Rattle.layout_files.proofs.Halfway.{Halfway}
use Rattle.layout_files.proofs.block_lines.read_bles.Given as goal

-- some BLEs are read, and the lines of the others are left
abbrev pub invariant-loop-cursor : goal.invariant-loop-cursor
invariant-loop-cursor l = record {
  read : (circuit : Circuit) (arch : Arch) (bles : List LaidBle) (after : List ℕ) → l.context.names.now ≡ circuit.nets → l.context.lut_size ≡ arch.lut_size → HasFileNames circuit → All (FitsBle (length circuit.nets) arch.lut_size) bles
      → l.initial.cursor ≡ Some (text_of (map (ble_line circuit arch) bles) ++ (10 ∷ after))
      → Halfway (λ k ble. line_of (ble_line circuit arch ble)) (λ ble. ble) bles (10 ∷ after) l.bles.items l.cursor;
  shorter : size l.cursor ≤ size l.initial.cursor;
}

abbrev pub decreases-loop-cursor : goal.decreases-loop-cursor
decreases-loop-cursor l = size l.cursor
