use Rattle.shared_core.proofs.Prelude.{arith, sym, ◌∙◌}
use Rattle.shared_core.proofs.Wrapped.{IsAccount-wrapped}
use Rattle.shared_core.proofs.shared.Core.over.Goals as goal

pub invariant_of-result : goal.invariant_of-result
invariant_of-result g c =
    IsAccount-wrapped _ _ _ _ _ _ _ _ _ _ _ _
    c.requires.begun
    c.no_marks.ensures.few
    c.in-Ok.ensures.marks
    c.slots_of-slots.ensures.slotted
    c.open-commands.ensures.total
    (c.open-commands.ensures.parts ∙ (sym c.requires.commands.1 ∙ c.requires.commands.2))
    c.open-commands.ensures.amount
    (sym c.requires.commands.1 ∙ c.requires.commands.2)
    (omega (arith, c.count_puts.ensures.total, c.open-puts.ensures.total))
    (c.count_puts.ensures.parts ∙ (c.open-puts.ensures.parts ∙ (sym c.requires.puts.1 ∙ c.requires.puts.2)))
    (sym c.requires.puts.1 ∙ c.requires.puts.2)
