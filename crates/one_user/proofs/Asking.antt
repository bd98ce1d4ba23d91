-- The reply to each command of a run, and the state after it.
use Rattle.one_user.proofs.Prelude.{ℕ, ◌≡◌, ◌+◌, ◌<◌, false, Result, Ok, Option, Some, None, arith, nat_lt, circuit_of, Circuit, BlifFault, packed_of, unfit_of, fit_of, State, answer_to, with_netlist, misfit_of, pack_unless, start, with_circuit, SlotState, after_event, Pack, Route, Command as Asked, Misfit, Refusal, Reply, Accepted, Loaded, Packing, Packed, Placed, Routing, Task, outcome_of, IsPacked, IsPlaced, refusal_in, slot_in, state_at, Refused, Placing}
use Rattle.tenant_slot.specs.declared.command.Command.TheVariants.{Place}

-- the result of a command: it is refused, and so is the netlist; or the state after it is the next
-- stage's
abbrev pub Leads : Task → (Task → Type 0) → State → SlotState → Option Refusal → Type 0
Leads task Passes new slot (Some refusal) = outcome_of task ≡ Refused refusal
Leads task Passes new slot None = Passes task × (slot ≡ slot_in slot.id new)

module _ (task : Task) (id generation entries : ℕ) (room : entries < 65536) where
  -- the upload
  abbrev pub load : Result Circuit BlifFault → Option State × Reply
  load said = with_circuit said (λ circuit. (Some (with_netlist (start task.arch task.strip) task.text), Accepted Loaded))

  -- the packing
  abbrev pub pack : Result Circuit BlifFault → Option State × Reply
  pack said = with_circuit said (λ circuit. pack_unless (state_at task Loaded 0 0 generation entries) (unfit_of circuit task.arch))

  pub packs : (circuit : Circuit) → circuit_of task.text task.arch.lut_size ≡ Ok circuit → (unfit : Option ℕ) → unfit_of circuit task.arch ≡ unfit → (slot : SlotState) (refusal : Option Refusal) →
      refusal ≡ refusal_in (answer_to (state_at task Loaded 0 0 generation entries) (Asked Pack)).1 → slot ≡ after_event (slot_in id (state_at task Loaded 0 0 generation entries)) (Asked Pack) →
      Leads task IsPacked (state_at task Packing 0 0 (generation + 1) (entries + 1)) slot refusal
  packs circuit said unfit h2 slot refusal is after_it = grind arith

  pub places : (circuit : Circuit) → circuit_of task.text task.arch.lut_size ≡ Ok circuit → unfit_of circuit task.arch ≡ None → nat_lt 100 task.effort ≡ false →
      (misfit : Option Misfit) → misfit_of (fit_of task.strip (packed_of circuit task.arch)) ≡ misfit → (slot : SlotState) (refusal : Option Refusal) →
      refusal ≡ refusal_in (answer_to (state_at task Packed 0 0 generation entries) (Asked (Place task.seed task.effort))).1 →
      slot ≡ after_event (slot_in id (state_at task Packed 0 0 generation entries)) (Asked (Place task.seed task.effort)) →
      Leads task IsPlaced (state_at task Placing task.seed task.effort (generation + 1) (entries + 1)) slot refusal
  places circuit said fits low misfit enough slot refusal is after_it = grind arith

  -- the routing
  pub routes : (slot : SlotState) (refusal : Option Refusal) → refusal ≡ refusal_in (answer_to (state_at task Placed task.seed task.effort generation entries) (Asked Route)).1 →
      slot ≡ after_event (slot_in id (state_at task Placed task.seed task.effort generation entries)) (Asked Route) →
      (refusal ≡ None) × (slot ≡ slot_in slot.id (state_at task Routing task.seed task.effort (generation + 1) (entries + 1)))
  routes slot refusal is after_it = grind arith
