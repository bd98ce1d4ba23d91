-- What a slot keeps between commands is right after an accepted command.
use Rattle.tenant_slot.proofs.Prelude.{ℕ, ◌+◌, arith, Arch, Strip, Standing, IsAnswerTo, Outcome, IsChange, IsSlot, accepted_in, slot_state}

-- an accepted answer leaves the slot lawful
pub accept_slot : (id : ℕ) (arch : Arch) (strip : Strip) (standing : Standing) (entries : ℕ) (answer : Outcome) → IsSlot id arch strip standing entries → IsAnswerTo (slot_state id arch strip standing entries) answer →
    IsChange answer.lut_size answer.change → IsSlot id arch strip (accepted_in standing answer.change) (entries + 1)
accept_slot id arch strip standing entries answer slot fits is = search arith
