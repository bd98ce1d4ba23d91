use Rattle.longest_path.proofs.Prelude.{◌≡◌, ◌+◌, ◌≤◌, List, length, subst, sym, arith, All, IsTableWithin, Reach, IsPassed, IsSettled, steps_to}
use Rattle.longest_path.proofs.Raising.{not_yet, on_the_way, settled_by}
use Rattle.longest_path.proofs.settle.longest_ways.Goals as goal

pub loop-pass-init : goal.loop-pass-init
loop-pass-init c = not_yet c.args.nets c.args.tables.now c.args.starts.now c.in_ok-reach.reach.items c.in_ok-reach.ensures

pub pass-requires-clause-within : goal.pass-requires-clause-within
pass-requires-clause-within c = subst (λ n. All (IsTableWithin n) c.args.tables.now) (sym c.loop-pass.invariant.long) c.requires.tables

pub pass-requires-clause-few : goal.pass-requires-clause-few
pass-requires-clause-few c = subst (λ n. n ≤ 8192) (sym c.loop-pass.invariant.long) c.requires.few

pub pass-requires-clause-small : goal.pass-requires-clause-small
pass-requires-clause-small c = c.loop-pass.invariant.small

pub returns-in-Loop : goal.returns-in-Loop
returns-in-Loop c = c.in-Loop.ensures c.args.starts.now c.loop-pass.invariant.found

pub returns-in-Same : goal.returns-in-Same
returns-in-Same c =
    let old : List Reach = c.loop-pass.reach.items in
    let it = c.in-Same.ensures c.args.starts.now c.loop-pass.invariant.found in
    let passed : IsPassed c.args.tables.now c.args.starts.now (length c.args.tables.now) old old = subst (λ (r : List Reach). IsPassed c.args.tables.now c.args.starts.now (length c.args.tables.now) old r) it.0 it.1 in
    subst (λ (r : List Reach). IsSettled c.args.nets c.args.tables.now c.args.starts.now r) (sym it.0)
    (settled_by c.args.nets c.loop-pass._pass c.args.tables.now c.args.starts.now old c.loop-pass.invariant passed)

pub unreachable-requires : goal.unreachable-requires
unreachable-requires c =
    let far = c.loop-pass.invariant.far (omega arith) in
    let many : c.loop-pass._pass + 1 ≤ steps_to c.loop-pass.reach.items far.0 = far.1 in
    let few : steps_to c.loop-pass.reach.items far.0 ≤ length c.loop-pass.reach.items + 1 = c.loop-pass.invariant.small far.0 in
    let long : length c.loop-pass.reach.items ≡ c.args.nets = c.loop-pass.invariant.long in
    omega arith

pub loop-pass-preserved : goal.loop-pass-preserved
loop-pass-preserved c =
    let it = c.in-Raised.ensures c.args.starts.now c.loop-pass.invariant.found in
    on_the_way c.loop-pass._pass c.args.nets c.args.tables.now c.args.starts.now c.loop-pass.reach.items c.in-Raised.raised.items c.loop-pass.invariant it.0 it.1
