use Rattle.tenant_slot.proofs.Prelude.{◌≡◌, ◌<◌, true, sym, subst, Pack, Answers, is_lawful, SlotState, slot_state}
use Rattle.tenant_slot.proofs.Kept.{netlist_kept}
use Rattle.tenant_slot.proofs.Serving.{pack_result}
use Rattle.tenant_slot.proofs.slot.Slot.pack.Goals as goal

pub returns : goal.returns
returns c =
    let slot : SlotState = slot_state c.self.inside.id c.self.inside.arch c.self.inside.strip c.self.inside.standing c.self.inside.entries in
    let kept = netlist_kept c.self.inside.arch c.self.inside.strip c.self.inside.standing.kept c.self.inside.standing.seed c.self.inside.standing.effort c.self.inside.standing.content c.netlist.result.now c.netlist.ensures c.self.invariant.content in
    let lawful : is_lawful slot.state.name Pack ≡ true = subst (λ (s : SlotState). is_lawful s.state.name Pack ≡ true) (sym c.self.view_is) c.requires.lawful in
    let room : slot.state.entries < 65536 = subst (λ (s : SlotState). s.state.entries < 65536) (sym c.self.view_is) c.requires.room in
    subst (λ (s : SlotState). Answers s Pack c.pack.result) c.self.view_is (pack_result slot c.netlist.result.now kept.0 kept.1 room c.pack.result lawful c.pack.ensures.ok c.pack.ensures.err)
