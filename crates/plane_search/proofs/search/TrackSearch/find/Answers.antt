use Rattle.plane_search.proofs.Prelude.{ℕ, List, arith, sym, subst, Contains, places_of, AreNoCheaper, AreOrderedStarts, Start}
use Rattle.plane_search.proofs.Bests.{none_below, among_nodes, ordered}
use Rattle.plane_search.proofs.Staying.{starts_apart, stays_on}
use Rattle.plane_search.proofs.search.TrackSearch.find.Goals as goal

pub invariant_of-starts : goal.invariant_of-starts
invariant_of-starts g c =
    let f = g.P.Planes.family c.args.view.now.planes.now in
    let track = c.args.view.now.track in
    let plane = c.tracks-tracks.ensures.lawful.planes track c.args.view.now.on in
    let same = sym c.as_slice-list.ensures.value in
    record {
      ordered = subst (λ (list : List Start). AreOrderedStarts (f.plane track) f.exit list) same (ordered plane c.requires.1);
      least = subst (λ (list : List Start). AreNoCheaper (f.plane track) f.exit c.bound-bound.result (places_of list)) same (none_below c.requires.1.are c.bound-bound.result c.bound-bound.ensures);
      some = omega (arith, c.if-bound-gt0.true);
    }

pub returns-then-is_start-clause-found : goal.returns-then-is_start-clause-found
returns-then-is_start-clause-found g c =
    let f = g.P.Planes.family c.args.view.now.planes.now in
    let plane = c.tracks-tracks.ensures.lawful.planes c.args.view.now.track c.args.view.now.on in
    λ _. stays_on f c.args.view.now.track c.args.view.now.exit _ c.stay_at.new.path plane.lawful (among_nodes c.requires.1.are plane) c.args.view.now.to
    (subst (λ (list : List Start). Contains (places_of list) c.args.view.now.exit) c.as_slice-list.ensures.value c.if-is_start.ensures) c.in_ok-stay_at.ensures.nodes c.in_ok-stay_at.ensures.cost

pub invariant_of-starts-2 : goal.invariant_of-starts-2
invariant_of-starts-2 g c =
    let f = g.P.Planes.family c.args.view.now.planes.now in
    let track = c.args.view.now.track in
    let plane = c.tracks-tracks.ensures.lawful.planes track c.args.view.now.on in
    let same = sym c.as_slice-list.ensures.value in
    let list : List Start = c.as_slice-list.result.now in
    let are : AreOrderedStarts (f.plane track) f.exit list = subst (λ (list : List Start). AreOrderedStarts (f.plane track) f.exit list) same (ordered plane c.requires.1) in
    record {
      ordered = are;
      least = starts_apart (f.plane track) f.exit (places_of list) plane.lawful are.within
          (λ has. c.if-is_start.ensures (subst (λ (v : ℕ). Contains (places_of list) v) (sym c.args.view.now.to) has));
      some = omega arith;
    }
