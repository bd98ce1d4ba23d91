use Rattle.fpgad_run.proofs.Prelude.{[], map, named_act}
use Rattle.fpgad_run.proofs.Telling.{Progress}
use Rattle.fpgad_run.proofs.in_order.Running.serve_all.Given as goal

-- the acts so far are answered
abbrev pub invariant-loop-act : goal.invariant-loop-act
invariant-loop-act l = Progress (record { names = []; jobs = []; service = l.fn.self.core; graph = l.fn.self.graph.now }) l.self (map named_act l.yielded)
