use Rattle.operator.proofs.Prelude.{sink_text, Steps}
use Rattle.operator.proofs.operator.step.Given as goal

-- the steps so far
abbrev pub invariant-loop-number : goal.invariant-loop-number
invariant-loop-number l = Steps l.graph l.fn.core l.fn.id l.number (sink_text l.fn.reply) (sink_text l.reply) l.core
