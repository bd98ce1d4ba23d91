use Rattle.rr_graph.proofs.Prelude.{◌≡◌, ◌≤◌, ◌+◌, ◌-◌, ◌*◌, sym, subst, arith, mul-le, IsAt, column_count, with_width}
use Rattle.rr_graph.proofs.Fabrics.{fabric_within, fabric_numbered, fabric_node, fabric_count}
use Rattle.rr_graph.proofs.part.GraphPartStripGraph.numbers_at.Goals as goal

pub numbers_at-requires : goal.numbers_at-requires
numbers_at-requires c = (c.self.invariant.kept.fabric.lawful.strip.width.0, c.self.invariant.few)

pub returns : goal.returns
returns c =
    let nodes = (with_width c.self.inside.nodes.now.numbering c.self.inside.width) in
    let table = c.self.inside.table.now in
    let basis = c.args.self.now in
    let fabric = c.self.invariant.kept.fabric in
    let kind = c.args.kind in
    let x = c.args.x in
    let y = c.args.y in
    let one : 1 * column_count nodes ≤ (nodes.strip.width + 1) * column_count nodes = mul-le 1 (column_count nodes) (nodes.strip.width + 1) (column_count nodes) (omega arith) (omega arith) in
    let whole : (nodes.strip.width + 1) * column_count nodes - nodes.before + nodes.before ≡ (nodes.strip.width + 1) * column_count nodes = omega (arith, one, fabric.lawful.before.within) in
    let count = fabric_count nodes table basis ((nodes.strip.width + 1) * column_count nodes - nodes.before) fabric c.self.view_is whole in
    record {
      within = omega (arith, c.numbers_at.ensures.within, count);
      sound = λ i from to.
          let few = fabric_numbered nodes table basis i fabric c.self.view_is (omega (arith, to, c.numbers_at.ensures.within)) in
          subst (IsAt kind x y) (fabric_node nodes table basis i fabric c.self.view_is few) (c.numbers_at.ensures.sound i from to);
      all = λ i few at. c.numbers_at.ensures.all i (fabric_within nodes table basis i fabric c.self.view_is few)
          (subst (IsAt kind x y) (sym (fabric_node nodes table basis i fabric c.self.view_is few)) at);
    }
