use Rattle.blif.proofs.Prelude.{◌≡◌, ◌++◌, take, drop, texts, repeats}
use Rattle.blif.proofs.checker.drive.Given as goal

-- no name so far was driven
abbrev pub invariant-loop-name : goal.invariant-loop-name
invariant-loop-name l = record {
  drivers : l.drivers ≡ l.fn.drivers ++ texts (take l.name-index l.names);
  repeats_left : repeats (l.clocks ++ l.drivers) (texts (drop l.name-index l.names)) ≡ repeats (l.clocks ++ l.fn.drivers) (texts l.names);
}
