use Rattle.blif.proofs.Prelude.{◌≡◌, ◌++◌, take, drop, texts, repeats}
use Rattle.blif.proofs.names.add_different.Given as goal

-- no name so far was a repeat
abbrev pub invariant-loop-name : goal.invariant-loop-name
invariant-loop-name l = record {
  names : l.set ≡ l.fn.set ++ texts (take l.name-index l.names);
  repeats_left : repeats l.set (texts (drop l.name-index l.names)) ≡ repeats l.fn.set (texts l.names);
}
