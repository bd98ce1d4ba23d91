use Rattle.layout_files.proofs.Prelude.{◌≡◌, ◌≤◌, ◌<◌, ◌^◌, ◌-◌, List, ℕ, All, ◌∷◌, ◌++◌, Some, take, Feed, size, feed_number, inputs_text}
use Rattle.layout_files.proofs.block_lines.read_inputs.Given as goal

-- the inputs before this place are read, and the words of the others are left
abbrev pub invariant-loop-place : goal.invariant-loop-place
invariant-loop-place l = record {
  read : (inputs : List Feed) (after : List ℕ) → All (λ feed. feed_number feed < 2 ^ 32) inputs → l.initial.cursor ≡ Some (inputs_text inputs 0 l.context.lut_size ++ (32 ∷ after))
      → (l.inputs.items ≡ take l._place inputs) × (l.cursor ≡ Some (inputs_text inputs l._place (l.context.lut_size - l._place) ++ (32 ∷ after)));
  shorter : size l.cursor ≤ size l.initial.cursor;
}
