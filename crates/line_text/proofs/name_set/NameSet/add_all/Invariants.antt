use Rattle.line_text.proofs.Prelude.{◌≡◌, drop, with_names, texts}
use Rattle.line_text.proofs.name_set.NameSet.add_all.Given as goal

-- adding the remaining names to the set so far has the result of adding all names to the first set
abbrev pub invariant-loop-name : goal.invariant-loop-name
invariant-loop-name l = with_names l.self (texts (drop l.name-index l.names)) ≡ with_names l.fn.self (texts l.names)
