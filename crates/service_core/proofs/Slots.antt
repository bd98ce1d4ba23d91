-- How a slot's calls change its tenancy.
use Rattle.service_core.proofs.Prelude.{◌≡◌, ℕ, Some, refl, arith, JobStep, JobState, Advance, Step, StepReply, GivesBack, SlotState, State, step, History, slot_of, with_entry, with_here, IsStepOf, step_entry}
use Rattle.tenant_slot.specs.declared.event.Event.TheVariants.{Advance as Stepped}
use Rattle.tenant_slot.specs.Slot.{Puts}

pub slot_is : (slot : SlotState) (id : ℕ) (state : State) → slot.id ≡ id → slot.state ≡ state → slot ≡ record { id = id; state = state; here = slot.here }
slot_is slot id state its_id its_state = rw (← its_id, ← its_state) refl

pub history_is : (x y : History) → x.id ≡ y.id → x.arch ≡ y.arch → x.strip ≡ y.strip → x.text_limit ≡ y.text_limit → x.live ≡ y.live → x.here ≡ y.here → x.entries ≡ y.entries → x ≡ y
history_is x y id arch strip limit live here entries = grind arith

-- a job that is given back to the slot is given back to the tenancy
pub gives_back : (h : History) (slot new : SlotState) (back : JobState) → slot ≡ slot_of h → GivesBack slot back new → GivesBack (slot_of h) back (slot_of (with_here new.here h))
gives_back h slot new back is given = grind arith

-- a step that is put into the slot is put into the tenancy
pub record Stands (h : History) (slot new : SlotState) (done : JobStep) (advance : Advance) (reply : StepReply) : Type 0 where
  pub entry : step_entry done advance.foreign reply ≡ record { event = Stepped advance; reply = Step reply }
  pub made : IsStepOf h done advance.foreign reply
  pub here : new.here ≡ (with_entry (step_entry done advance.foreign reply) h).here
  pub id : new.id ≡ h.id
  pub steps : step slot.state (Stepped advance) ≡ (new.state, Some (Step reply))

pub put_stands : (h : History) (slot new : SlotState) (done : JobStep) (made : Advance) (reply : StepReply) → slot ≡ slot_of h → Puts slot done made reply new → Stands h slot new done made reply
put_stands h slot new done made reply is put = grind arith
