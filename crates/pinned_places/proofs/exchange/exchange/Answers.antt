use Rattle.pinned_places.proofs.Prelude.{refl, place_at, place_after}
use Rattle.pinned_places.proofs.Steps.{replaced_all, replaced_more}
use Rattle.pinned_places.proofs.exchange.exchange.Goals as goal

pub loop-place-preserved : goal.loop-place-preserved
loop-place-preserved c = replaced_more (place_after c.args.home c.args.target) c.args.places.now c.loop-place.place-index c.loop-place.places _ c.place_after.result c.loop-place.auto.places c.loop-place-test.true c.loop-place.invariant c.place_after.ensures

pub returns : goal.returns
returns c = replaced_all (place_after c.args.home c.args.target) c.args.places.now c.loop-place.place-index c.loop-place.places c.loop-place.auto.places c.loop-place-test.false c.loop-place.invariant
