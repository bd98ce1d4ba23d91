use Rattle.tenant_slot.proofs.Prelude.{◌≡◌, ◌+◌, Some, subst, next_step, Step, step, SlotState, after_event, put_in, put_reply, slot_state}
use Rattle.tenant_slot.specs.declared.event.Event.TheVariants.{Advance as Stepped}
use Rattle.tenant_slot.proofs.Putting.{IsPut, put_of}
use Rattle.tenant_slot.proofs.slot.Slot.put_from.Goals as goal

-- the slot after the put
left : (c : goal.After-put-reply) → IsPut c.self.inside.id c.self.inside.arch c.self.inside.strip c.self.inside.standing c.self.inside.entries c.args.done c.recorded_advance-made.result c.is_next-counts.result c.is_last-last.result
left c =
    put_of c.self.inside.id c.self.inside.arch c.self.inside.strip c.self.inside.standing c.self.inside.entries c.args.self.now c.args.done c.recorded_advance-made.result c.is_next-counts.result c.is_last-last.result
    c.self.view_is c.self.invariant c.requires.can.room c.requires.can.id c.recorded_advance-made.ensures c.is_next-counts.ensures c.is_last-last.ensures

-- a last step is of the job that started from the slot's content
pub put-reply-requires-clause-begun : goal.put-reply-requires-clause-begun
put-reply-requires-clause-begun c =
    rw c.park.ensures (put_of c.self.inside.id c.self.inside.arch c.self.inside.strip c.self.inside.standing c.self.inside.entries c.args.self.now c.args.done c.recorded_advance-made.result c.is_next-counts.result c.is_last-last.result
    c.self.view_is c.self.invariant c.requires.can.room c.requires.can.id c.recorded_advance-made.ensures c.is_next-counts.ensures c.is_last-last.ensures).begun

pub invariant_of-self : goal.invariant_of-self
invariant_of-self c = rw (c.put-reply.ensures.standing, c.park.ensures) (left c).lawful

pub returns : goal.returns
returns c =
    rw (c.put-reply.ensures.reply, c.put-reply.ensures.standing, c.park.ensures) (record {
      advance = c.recorded_advance-made.ensures;
      told = subst (λ (s : SlotState). (step s.state (Stepped c.recorded_advance-made.result)).1 ≡ Some (Step (put_reply c.is_next-counts.result c.is_last-last.result))) c.self.view_is (left c).told;
      after = subst (λ (s : SlotState). slot_state c.self.inside.id c.self.inside.arch c.self.inside.strip (put_in c.self.inside.standing (next_step c.args.done) c.is_next-counts.result c.is_last-last.result) (c.self.inside.entries + 1) ≡ after_event s (Stepped c.recorded_advance-made.result)) c.self.view_is (left c).after_it;
    })
