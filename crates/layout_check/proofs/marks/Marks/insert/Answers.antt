use Rattle.layout_check.proofs.Prelude.{◌∙◌, set, true, ap}
use Rattle.layout_check.proofs.Stamps.{stamped}
use Rattle.layout_check.proofs.marks.Marks.insert.Goals as goal

pub returns : goal.returns
returns c = stamped c.self.inside.epoch c.self.inside.stamps.items c.args.number ∙ ap (λ marks. set marks c.args.number true) c.self.view_is
