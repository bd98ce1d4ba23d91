use Rattle.blif.proofs.Prelude.{◌≡◌, ◌++◌, drop, numbers_of, texts, with_names}
use Rattle.blif.proofs.names.number_all.Given as goal

-- adding the remaining names to the names so far has the result of adding all names to the first
-- ones
abbrev pub invariant-loop-name : goal.invariant-loop-name
invariant-loop-name l = record {
  nets : with_names l.nets (texts (drop l.name-index l.names)) ≡ with_names l.fn.nets (texts l.names);
  numbers : l.numbers ++ numbers_of l.nets (texts (drop l.name-index l.names)) ≡ l.fn.numbers ++ numbers_of l.fn.nets (texts l.names);
}
