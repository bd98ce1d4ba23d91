use Rattle.service_core.proofs.Prelude.{◌≡◌, refl, rules, start, state_after, events_of, slot_of}
use Rattle.service_core.proofs.Slots.{gives_back, slot_is}
use Rattle.service_core.proofs.tenancy.Tenancy.give_back.Goals as goal

pub returns : goal.returns
returns c =
    let id : c.in-Some.slot.id ≡ c.self.inside.id = search rules in
    let state : c.in-Some.slot.state ≡ state_after (start c.self.inside.arch c.self.inside.strip) (events_of c.self.inside.journal.items) = search rules in
    let slot : c.in-Some.slot ≡ slot_of c.args.self.now = rw (← c.self.view_is, c.in-Some.is) (slot_is c.in-Some.slot _ _ id state) in
    (c.give_back.new.self.here, gives_back c.args.self.now c.in-Some.slot c.give_back.new.self c.args.back slot c.give_back.ensures, rw (← c.self.view_is, c.in-Some.is) refl)
