use Rattle.script_threads.proofs.Prelude.{map, sink_text, named_operator, RepliesEach, stage}
use Rattle.script_threads.proofs.operator_lines.serve_each.Given as goal

-- the lines so far are served
abbrev pub invariant-loop-line : goal.invariant-loop-line
invariant-loop-line l = RepliesEach (stage l.graph l.fn.operator l.fn.jobs l.fn.core) (map named_operator l.yielded) (sink_text l.fn.reply) (sink_text l.reply) (stage l.graph l.operator l.jobs l.core)
