use Rattle.fabric_planes.proofs.Prelude.{◌∙◌, ℕ, ap, sym, subst, graph_of, place_of, IsShownPin, IsPinAt}
use Rattle.fabric_planes.proofs.ShownPins.{one_added}
use Rattle.fabric_planes.proofs.strip_planes.StripPlanes.add_pin.Goals as goal

pub returns : goal.returns
returns g c =
    let basis = g.G.StripGraph.basis c.args.self.now.graph.now in
    let at : IsPinAt basis c.args.self.now.layout.now.pins.rows c.pin.result = record {
      place = c.pin.ensures.place ∙ ap (λ (k : ℕ). place_of basis ((graph_of basis).node k)) (sym c.pin.ensures.number);
      ends = λ cost starts goal t search shown. c.pin.ensures.ends cost starts goal t search (subst (IsShownPin basis t) c.pin.ensures.number shown);
    } in
    one_added basis c.args.self.now.layout.now.pins.rows c.args.number c.pin.result c.args.pins.now.items c.push.new.self.items c.in_ok-push.ensures.items c.pin.ensures.number at
