use Rattle.tenant_slot.proofs.Prelude.{sym, subst, IsAnswerTo, Outcome, SlotState}
use Rattle.tenant_slot.proofs.Accepting.{accept_slot}
use Rattle.tenant_slot.proofs.slot.Slot.accept.Goals as goal

-- the answer
abbrev its_answer : goal.After-accept → Outcome
its_answer c = record { lut_size = c.answer.inside.lut_size; change = c.answer.inside.change; reply = c.answer.inside.reply }

pub invariant_of-self : goal.invariant_of-self
invariant_of-self c =
    let fits = subst (λ (s : SlotState). IsAnswerTo s (its_answer c)) (sym c.self.view_is) (subst (λ (a : Outcome). IsAnswerTo c.args.self.now a) (sym c.answer.view_is) c.requires) in
    rw c.accept.ensures (accept_slot c.self.inside.id c.self.inside.arch c.self.inside.strip c.self.inside.standing c.self.inside.entries (its_answer c) c.self.invariant fits c.answer.invariant)
