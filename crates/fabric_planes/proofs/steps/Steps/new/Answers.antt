use Rattle.fabric_planes.proofs.Prelude.{◌≡◌, subst, arith, ℕ, place_count, AreStepsBelow}
use Rattle.fabric_planes.proofs.steps.Steps.new.Goals as goal

pub returns : goal.returns
returns g c =
    let shaped = c.args.wires.now.shaped.now in
    let basis = g.G.StripGraph.basis shaped.graph.now in
    let count : c.places-place-end.result ≡ place_count basis = c.places-place-end.ensures.value basis shaped.fits in
    let end : c.loop-place.place ≡ place_count basis = omega (arith, c.loop-place-test.false, c.loop-place.auto.place-end, count) in
    subst (λ (k : ℕ). AreStepsBelow basis k c.loop-place.steps) end c.loop-place.invariant
