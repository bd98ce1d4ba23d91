use Rattle.longest_path.proofs.Prelude.{IsOnTheWay}
use Rattle.longest_path.proofs.settle.longest_ways.Given as goal

-- each pass before this one raised a net
abbrev pub invariant-loop-pass : goal.invariant-loop-pass
invariant-loop-pass l = IsOnTheWay l._pass l.fn.nets l.fn.tables l.fn.starts l.reach.items
