use Rattle.fabric_planes.proofs.Prelude.{◌≡◌, ◌∙◌, ◌*◌, ◌++◌, ℕ, List, ap, sym, subst, length, arith, with_items, with_items_is, on_ok_weaker, AreLeast, place_count, AreSidesBounded, by_side}
use Rattle.fabric_planes.proofs.BoundedSides.{few_by_side, bounds_from}
use Rattle.fabric_planes.proofs.side_bounds.SideBounds.fill.Goals as goal

pub invariant_of-prices : goal.invariant_of-prices
invariant_of-prices g c =
    let priced = c.args.priced.now in
    let basis = g.G.StripGraph.basis priced.graph.now in
    let tracks = priced.laid.shape.tracks in
    let by_place = c.by_place-by_place.ensures basis (g.C.NodeCosts.costs priced.costs.now) priced.priced in
    record {
      few = omega (arith, priced.layout.now.shape.small.few_tracks);
      long = by_place.long ∙ (ap (λ (n : ℕ). place_count basis * n) (sym tracks) ∙ ap (λ (n : ℕ). n * priced.layout.now.shape.tracks) (sym (c.places-places.ensures.value basis priced.laid.shape)));
    }

pub returns : goal.returns
returns g c =
    let priced = c.args.priced.now in
    let basis = g.G.StripGraph.basis priced.graph.now in
    let cost = g.C.NodeCosts.costs priced.costs.now in
    let by_place = c.by_place-by_place.result.now in
    let prices = c.by_place-by_place.ensures basis cost priced.priced in
    let pins = c.pin_bounds-pins.result in
    let list = c.extend_from_slice.new.self.items in
    let lasts = c.bound_lasts.new.lasts in
    let pins_are : list ≡ by_side pins = c.in_ok-extend_from_slice.ensures.items ∙ ap (λ (xs : List ℕ). xs ++ by_side pins) c.clear.ensures.items in
    let tracks : priced.layout.now.shape.tracks ≡ basis.arch.tracks = priced.laid.shape.tracks in
    let written : (with_items c.resize.new.self lasts).items ≡ lasts = with_items_is c.resize.new.self lasts (omega (arith, c.bound_lasts.ensures.long, c.in_ok-resize.ensures.len)) in
    let bounded : AreSidesBounded basis.arch.tracks c.args.sides.now by_place list 4 lasts =
    subst (λ (t : ℕ). AreSidesBounded t c.args.sides.now by_place list 4 lasts) tracks
    (subst (λ (xs : List ℕ). AreSidesBounded priced.layout.now.shape.tracks c.args.sides.now by_place xs 4 lasts) (sym pins_are) c.bound_lasts.ensures) in
    on_ok_weaker c.list_leasts.result (λ (least : AreLeast priced.layout.now.shape.tracks c.deref.result.now c.list_leasts.new.leasts.items).
    let leasts : AreLeast basis.arch.tracks (with_items c.resize.new.self lasts).items c.list_leasts.new.leasts.items =
    subst (λ (t : ℕ). AreLeast t (with_items c.resize.new.self lasts).items c.list_leasts.new.leasts.items) tracks
    (subst (λ (xs : List ℕ). AreLeast priced.layout.now.shape.tracks xs c.list_leasts.new.leasts.items) c.deref.ensures.value least) in
    let b = bounds_from basis c.laws.ensures.basis cost c.args.sink pins c.args.sides.now by_place list lasts (with_items c.resize.new.self lasts).items pins_are (sym written) c.pin_bounds-pins.ensures.low c.requires.sides prices bounded in
    record { four = ap (λ (xs : List ℕ). length xs) pins_are; few_pins = few_by_side pins list pins_are c.pin_bounds-pins.ensures.few; few_lasts = b.few; long = b.long; bounded = b.bounded; least = leasts }) c.list_leasts.ensures
