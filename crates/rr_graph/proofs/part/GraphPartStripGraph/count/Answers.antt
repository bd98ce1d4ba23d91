use Rattle.rr_graph.proofs.Prelude.{arith, with_width}
use Rattle.rr_graph.proofs.Fabrics.{fabric_count, fabric_basis, fabric_few}
use Rattle.rr_graph.proofs.Definition.{definition_lawful}
use Rattle.rr_graph.proofs.part.GraphPartStripGraph.count.Goals as goal

pub returns-clause-value : goal.returns-clause-value
returns-clause-value c = fabric_count (with_width c.self.inside.nodes.now.numbering c.self.inside.width) c.self.inside.table.now _ _ c.self.invariant.kept.fabric c.self.view_is c.count_to.ensures

pub returns-clause-few : goal.returns-clause-few
returns-clause-few c = omega (arith, fabric_few (with_width c.self.inside.nodes.now.numbering c.self.inside.width) c.self.inside.table.now _ c.self.invariant.kept.fabric c.count_to.ensures)

pub returns-clause-basis : goal.returns-clause-basis
returns-clause-basis c = fabric_basis (with_width c.self.inside.nodes.now.numbering c.self.inside.width) c.self.inside.table.now _ c.self.invariant.kept.fabric c.self.view_is

pub returns-clause-lawful : goal.returns-clause-lawful
returns-clause-lawful c = definition_lawful _ (fabric_basis (with_width c.self.inside.nodes.now.numbering c.self.inside.width) c.self.inside.table.now _ c.self.invariant.kept.fabric c.self.view_is)
