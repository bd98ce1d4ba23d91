-- Where the pins of a block or pad are.
use Rattle.fabric_planes.proofs.Prelude.{ℕ, arith, Node, Ipin, Opin, Basis, IsAt, graph_of, IsOutputOf, IsOwnPin}

pub own_at : (basis : Basis) (sink : Node) (pin : ℕ) → IsOwnPin basis sink pin → IsAt Ipin sink.x sink.y ((graph_of basis).node pin)
own_at basis sink pin own = grind arith

pub output_at : (basis : Basis) (source : Node) (pin : ℕ) → IsOutputOf basis source pin → IsAt Opin source.x source.y ((graph_of basis).node pin)
output_at basis source pin own = grind arith
