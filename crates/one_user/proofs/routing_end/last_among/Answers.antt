use Rattle.one_user.proofs.Prelude.{◌+◌, ap, arith, rules, sym, ends_by_thirty, Routed, wiring_of}
use Rattle.one_user.proofs.routing_end.last_among.Goals as goal

pub returns-in-Ok : goal.returns-in-Ok
returns-in-Ok g c = (
  record {
    before = c.loop-iteration.routing;
    nets_kept = c.loop-iteration.invariant.nets;
    going = c.loop-iteration.invariant.going;
    is_end = c.in-Ok.ensures.end;
    over = search rules;
  },
  ap (λ n. n + 1) (sym c.loop-iteration.invariant.made),
)

pub unreachable-requires : goal.unreachable-requires
unreachable-requires g c =
    ends_by_thirty (wiring_of (g.G.StripGraph.basis c.args.graph.now)) c.loop-iteration.routing.nets c.loop-iteration.routing.iterations (omega (arith, c.loop-iteration.invariant.made, c.loop-iteration-test.false, c.loop-iteration.auto.iteration-end))
    (ap (λ (r : Routed). r.standing) c.loop-iteration.invariant.going.exact)
