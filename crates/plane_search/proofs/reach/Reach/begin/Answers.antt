use Rattle.plane_search.proofs.Prelude.{arith, Contains-get_or}
use Rattle.plane_search.proofs.Reaching.{beginning, begun}
use Rattle.plane_search.proofs.Starting.{no_start, place_at, as_many}
use Rattle.plane_search.proofs.reach.Reach.begin.Goals as goal

pub loop-start-init : goal.loop-start-init
loop-start-init g c =
    let plane = c.tracks-tracks.ensures.lawful.planes c.args.starts.now.view.now.track c.args.starts.now.view.now.on in
    beginning (omega (arith, plane.count, c.in_ok-renew.ensures.room, c.places.ensures)) (omega (arith, plane.count, plane.exit_there.within)) c.in_ok-renew.ensures.unmarked c.clear.ensures

pub offer_start-requires-clause-among : goal.offer_start-requires-clause-among
offer_start-requires-clause-among g c = Contains-get_or c.args.starts.now.list.now c.loop-start.start-index no_start c.loop-start-test.true

pub offer_start-requires-clause-can : goal.offer_start-requires-clause-can
offer_start-requires-clause-can g c =
    let view = c.args.starts.now.view.now in
    let plane = c.tracks-tracks.ensures.lawful.planes view.track view.on in
    record { room = omega (arith, plane.count, c.loop-start.invariant.reaching.room); few = c.requires }

pub loop-start-preserved : goal.loop-start-preserved
loop-start-preserved g c =
    let list = c.args.starts.now.list.now in
    let index = c.loop-start.start-index in
    c.in_ok-offer_start.ensures.on index (record { within = omega (arith, c.loop-start-test.true, as_many list); is = place_at list index no_start c.loop-start-test.true }) c.loop-start.invariant

pub returns : goal.returns
returns g c = begun (omega (arith, c.loop-start-test.false, as_many c.args.starts.now.list.now)) c.loop-start.invariant
