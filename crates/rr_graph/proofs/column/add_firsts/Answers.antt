use Rattle.rr_graph.proofs.Prelude.{◌≡◌, ◌+◌, ◌*◌, subst, arith, rank_of, AreFirsts, Separates}
use Rattle.rr_graph.proofs.Tracks.{firsts_push}
use Rattle.rr_graph.proofs.column.add_firsts.Goals as goal

pub loop-y-init : goal.loop-y-init
loop-y-init c =
    let e : rank_of c.args.kind * 68 ≡ rank_of c.args.kind * 68 + 0 = omega arith in
    subst (AreFirsts c.args.members.now c.args.firsts.now.items) e c.requires.before

pub loop-y-preserved : goal.loop-y-preserved
loop-y-preserved c =
    let e : rank_of c.args.kind * 65536 + c.loop-y.y * 256 + 0 ≡ rank_of c.args.kind * 65536 + c.loop-y.y * 256 = omega arith in
    rw c.in_ok-push.ensures.items
    (firsts_push c.args.members.now c.loop-y.firsts.items c.args.kind c.loop-y.y c.first_from.result c.loop-y-test.true c.loop-y.invariant
    (subst (λ p. Separates c.args.members.now p c.first_from.result) e c.first_from.ensures))

pub returns : goal.returns
returns c =
    let e : rank_of c.args.kind * 68 + c.loop-y.y ≡ (rank_of c.args.kind + 1) * 68 = omega arith in
    subst (AreFirsts c.args.members.now c.loop-y.firsts.items) e c.loop-y.invariant
