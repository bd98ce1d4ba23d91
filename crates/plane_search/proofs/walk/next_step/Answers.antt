use Rattle.plane_search.proofs.Prelude.{ℕ, ◌+◌, length, get_or, arith, inl, inr, ap, sym, subst, length-map, cases_eq, IsUnfit}
use Rattle.plane_search.proofs.Members.{listed_end, past_listed}
use Rattle.plane_search.proofs.Starting.{rising_ends}
use Rattle.plane_search.proofs.Walking.{end_within}
use Rattle.plane_search.proofs.walk.next_step.Goals as goal

pub loop-edge-init : goal.loop-edge-init
loop-edge-init g c = (omega arith, λ k a b. absurd (omega (arith, a, b)))

pub overflow_add-place : goal.overflow_add-place
overflow_add-place g c =
    let f = g.P.Planes.family c.args.aim.now.planes.now in
    let family = c.tracks-tracks.ensures.lawful in
    let plane = family.planes c.args.aim.now.track c.args.aim.now.on in
    let q = listed_end _ _ _ _ c.ends-ends.ensures.value c.loop-edge-test.true in
    omega (arith, end_within (f.plane c.args.aim.now.track) plane.lawful c.args.stop.place _ (omega (arith, c.requires.within, plane.count)) q.2, plane.count, family.few)

pub fitting_cost-requires : goal.fitting_cost-requires
fitting_cost-requires g c =
    let f = g.P.Planes.family c.args.aim.now.planes.now in
    let family = c.tracks-tracks.ensures.lawful in
    let plane = family.planes c.args.aim.now.track c.args.aim.now.on in
    let q = listed_end _ _ _ _ c.ends-ends.ensures.value c.loop-edge-test.true in
    record {
      within = omega (arith, end_within (f.plane c.args.aim.now.track) plane.lawful c.args.stop.place _ (omega (arith, c.requires.within, plane.count)) q.2, plane.count);
      room = c.requires.room;
      cheap = c.requires.cheap;
    }

pub returns-in-Some-clause-some : goal.returns-in-Some-clause-some
returns-in-Some-clause-some g c =
    let f = g.P.Planes.family c.args.aim.now.planes.now in
    let ends = (f.plane c.args.aim.now.track).ends c.args.stop.place in
    let list = c.ends-ends.result.list.now in
    let is = c.ends-ends.ensures.value in
    let q = listed_end _ _ _ _ is c.loop-edge-test.true in
    record {
      within = q.0;
      end = q.1;
      fit = c.in-Some.ensures.some;
      unfit = c.loop-edge.invariant.1;
      order = λ k b less. rising_ends ends list _ c.loop-edge.edge is c.ends-ends.ensures.rising (omega (arith, ap length is, length-map list (λ end. end + c.ends-ends.result.base))) c.loop-edge-test.true k b (omega (arith, less, q.1));
    }

pub loop-edge-preserved : goal.loop-edge-preserved
loop-edge-preserved g c =
    let q = listed_end _ _ _ _ c.ends-ends.ensures.value c.loop-edge-test.true in
    let f = g.P.Planes.family c.args.aim.now.planes.now in
    let plane = f.plane c.args.aim.now.track in
    let at_k : ℕ → Type 0 = λ k. IsUnfit plane f.exit c.args.aim.now.best c.args.marks.now (get_or (plane.ends c.args.stop.place) k 0) (c.args.stop.cost + plane.cost (get_or (plane.ends c.args.stop.place) k 0)) in
    let here : at_k c.loop-edge.edge = subst (λ (x : ℕ). IsUnfit plane f.exit c.args.aim.now.best c.args.marks.now x (c.args.stop.cost + plane.cost x)) (sym q.1) c.in_default.ensures.none in (
      omega (arith, c.loop-edge.invariant.0),
      λ k from l. elim (cases_eq k c.loop-edge.edge) [
        | inl e ↦ subst at_k (sym e) here
        | inr o ↦ c.loop-edge.invariant.1 k from (omega (arith, l, o))
      ],
    )

pub returns-clause-none : goal.returns-clause-none
returns-clause-none g c =
    λ k from l. c.loop-edge.invariant.1 k from (omega (arith, l, past_listed _ _ _ _ c.ends-ends.ensures.value c.loop-edge-test.false))
