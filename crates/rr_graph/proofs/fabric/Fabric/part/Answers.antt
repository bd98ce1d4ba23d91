use Rattle.rr_graph.proofs.Prelude.{◌≤◌, sym, subst, Basis}
use Rattle.rr_graph.proofs.Widths.{part_of}
use Rattle.rr_graph.proofs.fabric.Fabric.part.Goals as goal

pub invariant_of-result : goal.invariant_of-result
invariant_of-result c =
    part_of c.self.inside.nodes.numbering c.args.width c.self.inside.table c.self.inside.inputs c.self.invariant c.requires.some
    (subst (λ (g : Basis). c.args.width ≤ g.strip.width) (sym c.self.view_is) c.requires.few)
