use Rattle.script_threads.proofs.Prelude.{◌≡◌, flat_map, sink_text, evicted_line}
use Rattle.script_threads.proofs.part.evicted_part.Given as goal

-- the items so far are answered
abbrev pub invariant-loop-item : goal.invariant-loop-item
invariant-loop-item g l = sink_text l.text ≡ flat_map evicted_line l.yielded
