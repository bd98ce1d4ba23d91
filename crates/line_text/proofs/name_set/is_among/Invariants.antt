use Rattle.line_text.proofs.Prelude.{◌≡◌, drop, has_name, texts}
use Rattle.line_text.proofs.name_set.is_among.Given as goal

-- no name before this index is the name
abbrev pub invariant-loop-other : goal.invariant-loop-other
invariant-loop-other l = has_name (texts (drop l.other-index l.names)) l.name ≡ has_name (texts l.names) l.name
