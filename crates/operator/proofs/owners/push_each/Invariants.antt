use Rattle.operator.proofs.Prelude.{◌≡◌, ◌++◌, take, flat_map, sink_text, owned_text}
use Rattle.operator.proofs.owners.push_each.Given as goal

-- the lines of the resources before this one
abbrev pub invariant-loop-owned : goal.invariant-loop-owned
invariant-loop-owned l = sink_text l.reply ≡ sink_text l.fn.reply ++ flat_map (owned_text l.rows) (take l.owned-index l.owners)
