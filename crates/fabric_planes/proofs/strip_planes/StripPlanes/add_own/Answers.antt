use Rattle.fabric_planes.proofs.Prelude.{◌≡◌, true, on_ok_weaker}
use Rattle.fabric_planes.proofs.ShownPins.{same_added}
use Rattle.fabric_planes.proofs.strip_planes.StripPlanes.add_own.Goals as goal

pub returns-then-is_own : goal.returns-then-is_own
returns-then-is_own g c =
    on_ok_weaker c.add_pin.result (same_added (g.G.StripGraph.basis c.args.self.now.graph.now) c.args.self.now.layout.now.pins.rows (λ k. k ≡ c.args.number) (λ k. (k ≡ c.args.number) × (c.args.is_own ≡ true)) c.args.pins.now.items c.add_pin.new.pins.items
    (λ k e. (e, c.if-is_own.true)) (λ k h. h.0)) c.add_pin.ensures
