use Rattle.fabric_planes.proofs.Prelude.{◌≡◌, ℕ, ◌-◌, ◌^◌, List, length, sym, ap, ◌∙◌, subst, arith, Terminals, planes_of, AreBounds, Head}
use Rattle.fabric_planes.proofs.FirstPaths.{all_paths, written}
use Rattle.fabric_planes.proofs.NetRoads.{is_track, tracks_of}
use Rattle.fabric_planes.proofs.RivalPaths.{all_starts}
use Rattle.fabric_planes.proofs.RivalStarts.{from_still}
use Rattle.fabric_planes.proofs.bounds.Bounds.fill_all.Goals as goal

pub returns : goal.returns
returns g c =
    let self = c.args.planes.now in
    let t : Terminals = record { source = self.source; sink = self.sink } in
    let costs = g.C.NodeCosts.costs self.costs.now in
    let basis = g.G.StripGraph.basis self.strip.graph.now in
    let is = c.laws.ensures.basis in
    let net = self.listed.now in
    let all = c.begin.new.bounds in
    let bounds = c.lower_by_wires.new.bounds in
    let last : Head = record { start = 2 ^ 64 - 1; pin = 0; place = 0; track = 0; cost = 0 } in
    let long : length bounds ≡ length all.items = c.lower_by_wires.ensures.falls.long ∙ (c.lower_by_pins.ensures.falls.long ∙ ap (λ (xs : List ℕ). length xs) c.as_mut_slice-all.ensures.value) in
    let whole = written bounds all.items all.len long (omega (arith, all.ok.0)) in
    let from = all_starts is t costs self.starts.now self.goal self.search last net bounds self.are_listed
    (λ number inside. from_still basis costs (planes_of basis costs self.starts.now self.goal t) t last number c.lower_by_pins.new.bounds bounds (c.lower_by_pins.ensures.low number inside) c.lower_by_wires.ensures.falls) c.lower_by_wires.ensures.low in
    subst (AreBounds (planes_of basis costs self.starts.now self.goal t)) (sym whole) (record {
      long = long ∙ (c.in_ok-begin.ensures.long ∙ sym (tracks_of basis costs self.starts.now self.goal t));
      each = λ track few. all_paths is t costs self.starts.now self.goal self.search track (is_track basis costs self.starts.now self.goal t track few) last bounds from (λ number b. omega (arith, b, c.laws.ensures.few));
    })
