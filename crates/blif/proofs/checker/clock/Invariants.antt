use Rattle.blif.proofs.Prelude.{◌≡◌, drop, filter, not, ◌&&◌, texts, has_name, with_names, undeclared_names}
use Rattle.blif.proofs.checker.clock.Given as goal

-- no name so far was driven by another line
abbrev pub invariant-loop-name : goal.invariant-loop-name
invariant-loop-name l = record {
  clocks : with_names l.clocks (undeclared_names l.declared (texts (drop l.name-index l.names))) ≡ with_names l.fn.clocks (undeclared_names l.declared (texts l.names));
  faults_left : filter (λ name. not (has_name l.declared name) && has_name l.drivers name) (texts (drop l.name-index l.names)) ≡ filter (λ name. not (has_name l.declared name) && has_name l.drivers name) (texts l.names);
}
