use Rattle.layout_files.proofs.Prelude.{◌≡◌, ◌≤◌, ◌<◌, List, ℕ, All, Option, ◌∷◌, ◌++◌, Some, length, flat_map, ForSome, Circuit, net_name, or_open, word_after_space, size, HasFileNames}
use Rattle.layout_files.proofs.Halfway.{Halfway}
use Rattle.layout_files.proofs.block_lines.read_pins.Given as goal

-- some pins are read, and the words of the others are left
abbrev pub invariant-loop-cursor : goal.invariant-loop-cursor
invariant-loop-cursor l = record {
  read : (circuit : Circuit) (pins : List (Option ℕ)) (after : List ℕ) → l.context.names.now ≡ circuit.nets → HasFileNames circuit → All (λ pin. ForSome pin (λ net. net < length circuit.nets)) pins
      → l.initial.cursor ≡ Some (flat_map (λ pin. word_after_space (or_open (net_name circuit) pin)) pins ++ (10 ∷ after))
      → Halfway (λ k pin. word_after_space (or_open (net_name circuit) pin)) (λ pin. pin) pins (10 ∷ after) l.pins.items l.cursor;
  shorter : size l.cursor ≤ size l.initial.cursor;
}

abbrev pub decreases-loop-cursor : goal.decreases-loop-cursor
decreases-loop-cursor l = size l.cursor
