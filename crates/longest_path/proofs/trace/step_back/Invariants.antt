use Rattle.longest_path.proofs.Prelude.{NoneLeads}
use Rattle.longest_path.proofs.trace.step_back.Given as goal

-- none of the tables before this one leads to the net
abbrev pub invariant-loop-place : goal.invariant-loop-place
invariant-loop-place l = NoneLeads l.tables l.reach l.place l.net l.steps
