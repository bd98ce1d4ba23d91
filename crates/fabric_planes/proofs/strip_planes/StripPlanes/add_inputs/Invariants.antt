use Rattle.fabric_planes.proofs.Prelude.{◌<◌, AddsPins, IsOwnPin}
use Rattle.fabric_planes.proofs.strip_planes.StripPlanes.add_inputs.Given as goal

abbrev pub invariant-loop-number : goal.invariant-loop-number
invariant-loop-number g l = AddsPins (g.G.StripGraph.basis l.self.graph.now) l.self.layout.now.pins.rows (λ k. (k < l.number) × IsOwnPin (g.G.StripGraph.basis l.self.graph.now) l.sink k) l.fn.pins.items l.pins.items
