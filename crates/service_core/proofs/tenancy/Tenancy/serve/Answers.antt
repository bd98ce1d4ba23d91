use Rattle.service_core.proofs.Prelude.{◌≡◌, ◌+◌, ◌≤◌, List, [], ◌∷◌, ◌++◌, Ok, Option, Some, true, rules, ap, arith, sym, subst, Command as Asked, Answers, State, state_after, start, step, Reply, step-accepted, Entry, events_of, state_of, CountAs}
use Rattle.service_core.proofs.Booking.{slot_gives_up, stands_for}
use Rattle.service_core.proofs.Held.{IsOnStrip, events_stay}
use Rattle.service_core.proofs.Histories.{IsHistory-push, state_after-push}
use Rattle.service_core.proofs.tenancy.Tenancy.serve.Goals as goal

pub invariant_of-self-in-Ok : goal.invariant_of-self-in-Ok
invariant_of-self-in-Ok c =
    let e : Entry = record { event = Asked c.args.command; reply = c.in-Ok.recorded.reply } in
    let items : c.push.new.self.items ≡ c.self.inside.journal.items ++ e ∷ [] = search rules in
    let here : c.in-Some.slot.state ≡ state_after (start c.self.inside.arch c.self.inside.strip) (events_of c.self.inside.journal.items) = search rules in
    let said : Answers c.in-Some.slot c.args.command (Ok c.in-Ok.answer) = c.in-Ok.ensures.answer in
    let steps : step c.in-Some.slot.state (Asked c.args.command) ≡ (c.accept.new.self.state, Some c.in-Ok.recorded.reply) =
    rw (c.accept.ensures.slot, c.in-Ok.ensures.reply) (step-accepted c.in-Some.slot c.in-Ok.answer (Asked c.args.command) said.0.room said.1) in
    let its : c.accept.new.self.id ≡ c.self.inside.id = search rules in
    let journal : c.as_slice-journal.result.now ≡ c.self.inside.journal.items = search rules in
    let P : List Entry → Type 0 = λ es. CountAs (c.self.inside.held + c.in-Ok.recorded.bytes) (es ++ record { event = Asked c.args.command; reply = c.in-Ok.recorded.reply } ∷ []) in
    let counted : CountAs (c.self.inside.held + c.in-Ok.recorded.bytes) (c.self.inside.journal.items ++ e ∷ []) =
    subst P journal (rw c.in-Ok.ensures.reply (c.in-Ok.ensures.adds c.self.inside.held (subst (CountAs c.self.inside.held) (sym journal) c.self.invariant.counted))) in
    let within : c.self.inside.held + c.in-Ok.recorded.bytes ≤ c.self.inside.text_limit = omega (arith, c.in-Ok.ensures.within, c.self.invariant.within) in
    rw items (IsHistory-push c.self.inside.id c.self.inside.arch c.self.inside.strip c.self.inside.journal.items e c.in-Some.slot.state c.accept.new.self (c.self.inside.held + c.in-Ok.recorded.bytes) c.self.inside.text_limit counted within c.self.invariant.replayed here steps its)

pub give_up-requires : goal.give_up-requires
give_up-requires c =
    let here : c.in-Some.slot.state ≡ state_after (start c.self.inside.arch c.self.inside.strip) (events_of c.self.inside.journal.items) = search rules in
    let on : IsOnStrip c.self.inside.arch c.self.inside.strip c.in-Some.slot.state = subst (IsOnStrip c.self.inside.arch c.self.inside.strip) (sym here) (events_stay (start c.self.inside.arch c.self.inside.strip) (events_of c.self.inside.journal.items)) in
    stands_for c.args.book.now c.args.offset c.self.inside.arch c.self.inside.strip c.in-Some.slot.state on (rw (← c.self.view_is) at c.requires.there)

pub returns-in-Ok-clause-book : goal.returns-in-Ok-clause-book
returns-in-Ok-clause-book c =
    let e : Entry = record { event = Asked c.args.command; reply = c.in-Ok.recorded.reply } in
    let items : c.push.new.self.items ≡ c.self.inside.journal.items ++ e ∷ [] = search rules in
    let here : c.in-Some.slot.state ≡ state_after (start c.self.inside.arch c.self.inside.strip) (events_of c.self.inside.journal.items) = search rules in
    let said : Answers c.in-Some.slot c.args.command (Ok c.in-Ok.answer) = c.in-Ok.ensures.answer in
    let steps : step c.in-Some.slot.state (Asked c.args.command) ≡ (c.accept.new.self.state, Some c.in-Ok.recorded.reply) =
    rw (c.accept.ensures.slot, c.in-Ok.ensures.reply) (step-accepted c.in-Some.slot c.in-Ok.answer (Asked c.args.command) said.0.room said.1) in
    let told : (step c.in-Some.slot.state (Asked c.args.command)).1 ≡ Some c.in-Ok.recorded.reply = ap (λ (p : State × Option Reply). p.1) steps in
    let after : state_after (start c.self.inside.arch c.self.inside.strip) (events_of c.push.new.self.items) ≡ (step (state_of c.args.self.now) (Asked c.args.command)).0 =
    rw (← c.self.view_is, items) (state_after-push (start c.self.inside.arch c.self.inside.strip) c.self.inside.journal.items e) in
    slot_gives_up c.args.book.now c.give_up.new.book c.args.offset c.args.self.now
    (record { id = c.self.inside.id; arch = c.self.inside.arch; strip = c.self.inside.strip; text_limit = c.self.inside.text_limit; live = true; here = c.accept.new.self.here; entries = c.push.new.self.items }) c.in-Some.slot.state c.args.command c.in-Ok.recorded.reply (rw (← c.self.view_is) here) told after c.give_up.ensures
