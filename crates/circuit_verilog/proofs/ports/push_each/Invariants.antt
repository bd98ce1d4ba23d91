use Rattle.circuit_verilog.proofs.Prelude.{◌≡◌, ◌++◌, take, flat_map, net_text}
use Rattle.circuit_verilog.proofs.ports.push_each.Given as goal

-- the ones before this one are written
abbrev pub invariant-loop-net : goal.invariant-loop-net
invariant-loop-net l = l.text.items ≡ l.initial.text.items ++ flat_map (net_text l.what l.circuit) (take l.net-index l.nets)
