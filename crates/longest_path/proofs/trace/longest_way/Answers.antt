use Rattle.longest_path.proofs.Prelude.{ℕ, ◌≡◌, ◌+◌, ◌-◌, ◌<◌, List, length, subst, sym, arith, Reach, steps_to, IsThrough}
use Rattle.longest_path.proofs.Tracing.{longer, some_leads}
use Rattle.longest_path.proofs.trace.longest_way.Goals as goal

pub unreachable-requires : goal.unreachable-requires
unreachable-requires c =
    let reach : List Reach = c.args.reach.now in
    let left : steps_to reach c.loop-made.net + c.loop-made.made ≡ steps_to reach c.args.to + 1 = c.loop-made.invariant.left in
    let more : c.loop-made.made < steps_to reach c.args.to = c.loop-made-test.true in
    some_leads c.args.tables.now reach c.loop-made.net (steps_to reach c.args.to - c.loop-made.made) c.requires.settled (omega arith) (omega arith) c.in_default.ensures

pub loop-made-preserved : goal.loop-made-preserved
loop-made-preserved c =
    let reach : List Reach = c.args.reach.now in
    let left : steps_to reach c.loop-made.net + c.loop-made.made ≡ steps_to reach c.args.to + 1 = c.loop-made.invariant.left in
    let more : c.loop-made.made < steps_to reach c.args.to = c.loop-made-test.true in
    let back = c.in-Some.ensures in
    let far : steps_to reach c.in-Some.back.net ≡ steps_to reach c.args.to - c.loop-made.made = back.far in
    let long : length c.loop-made.numbers.items + 1 ≡ c.loop-made.made = c.loop-made.invariant.long in
    let through = longer c.args.tables.now c.loop-made.numbers.items c.loop-made.net c.in-Some.back.net c.args.to c.in-Some.back.table back.table c.loop-made.invariant.through back.is back.drives back.reads in
    record {
      left = omega arith;
      long = grind arith;
      through = subst (λ (xs : List ℕ). IsThrough c.args.tables.now c.in-Some.back.net xs c.args.to) (sym c.in_ok-push.ensures.items) through;
    }
