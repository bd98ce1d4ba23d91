use Rattle.service_core.proofs.Prelude.{◌≡◌, rules, sym, subst, start, state_after, events_of}
use Rattle.service_core.proofs.Booking.{there_for}
use Rattle.service_core.proofs.Held.{IsOnStrip, events_stay}
use Rattle.service_core.proofs.tenancy.Tenancy.routed_resources.Goals as goal

pub returns-clause-there : goal.returns-clause-there
returns-clause-there c =
    let state : c.in-Some.slot.state ≡ state_after (start c.self.inside.arch c.self.inside.strip) (events_of c.self.inside.journal.items) = search rules in
    let on : IsOnStrip c.self.inside.arch c.self.inside.strip c.in-Some.slot.state = subst (IsOnStrip c.self.inside.arch c.self.inside.strip) (sym state) (events_stay (start c.self.inside.arch c.self.inside.strip) (events_of c.self.inside.journal.items)) in
    rw (← c.self.view_is) (there_for c.self.inside.arch c.self.inside.strip c.in-Some.slot.state c.routed_resources.result.now on c.routed_resources.ensures.there)
