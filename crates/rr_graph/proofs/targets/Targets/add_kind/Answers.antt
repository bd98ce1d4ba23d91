use Rattle.rr_graph.proofs.Prelude.{sym, ◌∙◌}
use Rattle.rr_graph.proofs.Tracks.{kind_none}
use Rattle.rr_graph.proofs.targets.Targets.add_kind.Goals as goal

pub returns-else-may_reach : goal.returns-else-may_reach
returns-else-may_reach c = kind_none c.args.self.now.nodes.now.numbering c.args.self.now.a c.args.row.now.items c.args.self.now.x c.args.self.now.kind c.args.self.now.nodes.now.lawful (sym c.may_reach.ensures ∙ c.if-may_reach.false) c.requires
