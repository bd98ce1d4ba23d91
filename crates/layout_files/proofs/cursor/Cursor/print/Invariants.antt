use Rattle.layout_files.proofs.Prelude.{◌≡◌, ◌≤◌, take, flat_map, bytes_of_part, left_after, size}
use Rattle.layout_files.proofs.cursor.Cursor.print.Given as goal

-- the parts before this one are printed, and nothing is put back
abbrev pub invariant-loop-part : goal.invariant-loop-part
invariant-loop-part l = record {
  left : l.self ≡ left_after l.initial.self (flat_map bytes_of_part (take l.part-index l.parts));
  shorter : size l.self ≤ size l.initial.self;
}
