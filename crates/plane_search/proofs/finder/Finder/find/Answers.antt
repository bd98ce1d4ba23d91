use Rattle.plane_search.proofs.Prelude.{arith}
use Rattle.plane_search.proofs.Bests.{none_within}
use Rattle.plane_search.proofs.Staying.{is_met}
use Rattle.plane_search.proofs.finder.Finder.find.Goals as goal

pub returns-then-most-bound-clause-none : goal.returns-then-most-bound-clause-none
returns-then-most-bound-clause-none g c =
    let starts = c.args.starts.now in
    λ _. none_within (g.P.Planes.family starts.view.now.planes.now) starts.view.now.track c.args.most starts.bound _ starts.least c.if-most-bound.true

pub find_at-requires : goal.find_at-requires
find_at-requires g c =
    let starts = c.args.starts.now in
    record {
      some = starts.some;
      few = omega (arith, c.requires, c.if-most-bound.false);
      cheap = starts.least;
      pruned = record {
        room = omega (arith, c.in_ok-forget.ensures.room, c.places.ensures);
        least = λ node b small. absurd (omega (arith, small, b, c.in_ok-forget.ensures.room, c.places.ensures, c.in_ok-forget.ensures.unmarked node 0));
      };
    }

pub find_at-requires-2 : goal.find_at-requires-2
find_at-requires-2 g c =
    let view = c.args.starts.now.view.now in
    let plane = c.tracks-tracks.ensures.lawful.planes view.track view.on in
    let pass = c.in_ok-least.ensures in
    record {
      some = pass.some;
      few = omega (arith, c.requires, pass.few);
      cheap = pass.least;
      pruned = record { room = pass.room; least = λ node b small. pass.sound c.in_ok-least.least pass.least node (omega (arith, b, plane.count)) small };
    }

pub returns-clause-none : goal.returns-clause-none
returns-clause-none g c =
    let view = c.args.starts.now.view.now in
    λ e. absurd (is_met (g.P.Planes.family view.planes.now) view.track c.in_ok-least.least _ (c.in_ok-least.ensures.met (omega (arith, c.if-most-least.false))) (c.find_at-2.ensures.none e))
