use Rattle.tenant_slot.proofs.Prelude.{◌≡◌, ◌∙◌, IfOk, Some, ap, subst, Arch, circuit_of, load_outcome, SlotState}
use Rattle.tenant_slot.proofs.Serving.{change_result}
use Rattle.tenant_slot.proofs.slot.Slot.change.Goals as goal

pub returns : goal.returns
returns c =
    let slot : SlotState = c.args.self.now in
    let text = c.args.text.now in
    let size : c.arch.result.now.lut_size ≡ slot.state.arch.lut_size = ap (λ (arch : Arch). arch.lut_size) c.arch.ensures.value ∙ ap (λ (s : SlotState). s.state.arch.lut_size) c.self.view_is in
    change_result slot text c.in_ok-kept.kept c.load.result c.requires.lawful c.requires.room c.in_ok-kept.ensures.exact c.in_ok-kept.ensures.lawful
    (subst (λ n. IfOk c.load.result (λ a. a ≡ load_outcome n text (Some c.in_ok-kept.kept) (circuit_of text n))) size c.load.ensures.ok) c.load.ensures.err
