use Rattle.fabric_planes.proofs.Prelude.{◌∙◌, ap, arith, Arch, Strip, Node, sides_at}
use Rattle.fabric_planes.proofs.BlockInputs.{all_blocks, none_up_to, one_more}
use Rattle.fabric_planes.proofs.input_sides.input_sides.Goals as goal

pub loop-number-init : goal.loop-number-init
loop-number-init g c = rw c.new-list.ensures.items (none_up_to (g.G.StripGraph.basis c.args.graph.now) c.numbers_at-numbers.result.first)

pub loop-number-preserved : goal.loop-number-preserved
loop-number-preserved g c =
    let basis = g.G.StripGraph.basis c.args.graph.now in
    rw c.in_ok-push.ensures.items
    (one_more basis c.numbers_at-numbers.result.first c.loop-number.number c.loop-number.list.items c.sides_at.result c.loop-number.invariant
    (c.sides_at.ensures
    ∙ (ap (λ (arch : Arch). sides_at arch c.strip.result c.node.result) c.arch.ensures
    ∙ (ap (λ (strip : Strip). sides_at basis.arch strip c.node.result) c.strip.ensures ∙ ap (λ (v : Node). sides_at basis.arch basis.strip v) c.node.ensures))))

pub returns : goal.returns
returns g c =
    all_blocks c.laws.ensures.basis c.numbers_at-numbers.result.first c.numbers_at-numbers.result.end c.loop-number.number c.loop-number.list.items c.numbers_at-numbers.ensures c.loop-number.invariant (omega (arith, c.loop-number-test.false))
