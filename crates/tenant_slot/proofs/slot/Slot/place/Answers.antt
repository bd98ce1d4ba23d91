use Rattle.tenant_slot.proofs.Prelude.{◌≡◌, ◌<◌, true, sym, subst, Place, Answers, is_lawful, SlotState, slot_state}
use Rattle.tenant_slot.proofs.Kept.{netlist_kept}
use Rattle.tenant_slot.proofs.Serving.{place_result}
use Rattle.tenant_slot.proofs.slot.Slot.place.Goals as goal

pub returns : goal.returns
returns c =
    let slot : SlotState = slot_state c.self.inside.id c.self.inside.arch c.self.inside.strip c.self.inside.standing c.self.inside.entries in
    let kept = netlist_kept c.self.inside.arch c.self.inside.strip c.self.inside.standing.kept c.self.inside.standing.seed c.self.inside.standing.effort c.self.inside.standing.content c.netlist.result.now c.netlist.ensures c.self.invariant.content in
    let lawful : is_lawful slot.state.name (Place c.args.seed c.args.effort) ≡ true = subst (λ (s : SlotState). is_lawful s.state.name (Place c.args.seed c.args.effort) ≡ true) (sym c.self.view_is) c.requires.lawful in
    let room : slot.state.entries < 65536 = subst (λ (s : SlotState). s.state.entries < 65536) (sym c.self.view_is) c.requires.room in
    subst (λ (s : SlotState). Answers s (Place c.args.seed c.args.effort) c.place.result) c.self.view_is (place_result slot c.netlist.result.now kept.0 kept.1 room c.args.seed c.args.effort c.place.result lawful c.place.ensures.ok c.place.ensures.err)
