use Rattle.service_core.proofs.Prelude.{◌≡◌, [], ◌∷◌, ◌++◌, true, rules, refl, subst, sym, Step, start, state_after, IsOrigin, SlotState, Entry, events_of, slot_of}
use Rattle.tenant_slot.specs.declared.event.Event.TheVariants.{Advance as Stepped}
use Rattle.service_core.proofs.Histories.{IsHistory-push}
use Rattle.service_core.proofs.JournalTexts.{CountAs-push}
use Rattle.service_core.proofs.Slots.{Stands, history_is, put_stands, slot_is}
use Rattle.service_core.proofs.tenancy.Tenancy.put.Goals as goal

pub put_from-reply-requires-clause-origin : goal.put_from-reply-requires-clause-origin
put_from-reply-requires-clause-origin c =
    let id : c.in-Some.slot.id ≡ c.self.inside.id = search rules in
    let state : c.in-Some.slot.state ≡ state_after (start c.self.inside.arch c.self.inside.strip) (events_of c.self.inside.journal.items) = search rules in
    let slot : c.in-Some.slot ≡ slot_of c.args.self.now = rw (← c.self.view_is, c.in-Some.is) (slot_is c.in-Some.slot _ _ id state) in
    subst (λ (s : SlotState). IsOrigin s c.args.done c.args.origin) (sym slot) c.requires.origin

pub invariant_of-self-2 : goal.invariant_of-self-2
invariant_of-self-2 c =
    let e : Entry = record { event = Stepped c.put_from-reply.result.0; reply = Step c.put_from-reply.result.1 } in
    let items : c.push.new.self.items ≡ c.self.inside.journal.items ++ e ∷ [] = search rules in
    let id : c.in-Some.slot.id ≡ c.self.inside.id = search rules in
    let state : c.in-Some.slot.state ≡ state_after (start c.self.inside.arch c.self.inside.strip) (events_of c.self.inside.journal.items) = search rules in
    let slot : c.in-Some.slot ≡ slot_of c.args.self.now = rw (← c.self.view_is, c.in-Some.is) (slot_is c.in-Some.slot _ _ id state) in
    let stands : Stands c.args.self.now c.in-Some.slot c.put_from-reply.new.self c.args.done c.put_from-reply.result.0 c.put_from-reply.result.1 = put_stands c.args.self.now c.in-Some.slot c.put_from-reply.new.self c.args.done _ _ slot c.put_from-reply.ensures in
    let its : c.put_from-reply.new.self.id ≡ c.self.inside.id = rw (← c.self.view_is) at stands.id in
    rw items (IsHistory-push c.self.inside.id c.self.inside.arch c.self.inside.strip c.self.inside.journal.items e c.in-Some.slot.state c.put_from-reply.new.self c.self.inside.held c.self.inside.text_limit (CountAs-push c.self.inside.held c.self.inside.journal.items e c.self.invariant.counted refl) c.self.invariant.within c.self.invariant.replayed state stands.steps its)

pub returns : goal.returns
returns c =
    let e : Entry = record { event = Stepped c.put_from-reply.result.0; reply = Step c.put_from-reply.result.1 } in
    let items : c.push.new.self.items ≡ c.self.inside.journal.items ++ e ∷ [] = search rules in
    let id : c.in-Some.slot.id ≡ c.self.inside.id = search rules in
    let state : c.in-Some.slot.state ≡ state_after (start c.self.inside.arch c.self.inside.strip) (events_of c.self.inside.journal.items) = search rules in
    let slot : c.in-Some.slot ≡ slot_of c.args.self.now = rw (← c.self.view_is, c.in-Some.is) (slot_is c.in-Some.slot _ _ id state) in
    let stands : Stands c.args.self.now c.in-Some.slot c.put_from-reply.new.self c.args.done c.put_from-reply.result.0 c.put_from-reply.result.1 = put_stands c.args.self.now c.in-Some.slot c.put_from-reply.new.self c.args.done _ _ slot c.put_from-reply.ensures in
    let live : c.args.self.now.live ≡ true = c.requires.live in (
      c.put_from-reply.result.0.foreign,
      stands.made,
      history_is _ _ (rw (← c.self.view_is) refl) (rw (← c.self.view_is) refl) (rw (← c.self.view_is) refl) (rw (← c.self.view_is) refl) (rw live refl) stands.here (rw (items, stands.entry, ← c.self.view_is) refl),
    )
