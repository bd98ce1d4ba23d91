use Rattle.fabric_planes.proofs.Prelude.{inl, inr}
use Rattle.fabric_planes.proofs.Found.{firsts_cases}
use Rattle.fabric_planes.proofs.StepRows.{class_skipped, none_first}
use Rattle.fabric_planes.proofs.steps.Steps.add.Goals as goal

pub returns-then-first : goal.returns-then-first
returns-then-first g c =
    class_skipped c.laws.ensures.basis c.args.place c.args.self.now c.requires.below (none_first c.laws.ensures.basis c.args.wires.now.firsts.now c.args.wires.now.are_firsts c.args.place c.if-first.true)

pub set_class-requires-clause-first : goal.set_class-requires-clause-first
set_class-requires-clause-first g c = elim (firsts_cases c.laws.ensures.basis c.args.wires.now.firsts.now c.args.wires.now.are_firsts c.args.place c.requires.place) [
  | inl none ↦ absurd (c.if-first.false none)
  | inr first ↦ first
]
