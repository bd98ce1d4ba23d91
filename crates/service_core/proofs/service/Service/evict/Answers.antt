use Rattle.service_core.proofs.Prelude.{◌≡◌, ◌-◌, get_or, rules, refl, Releases, History, state_of, closed_history, IsLiveIn, IsPlaceOf, held_at, routed_set}
use Rattle.service_core.proofs.Booking.{in_book_there, released_held, sound_evicted, stand_in}
use Rattle.service_core.proofs.Keeps.{live_is, set-live}
use Rattle.service_core.proofs.service.Service.evict.Goals as goal

pub release-requires : goal.release-requires
release-requires c =
    let old : History = c.index_mut-tenancy.result.now in
    let live : IsLiveIn c.self.inside.tenancies.items c.args.id = search rules in
    let is : old ≡ get_or c.self.inside.tenancies.items (c.args.id - 1) old = search rules in
    let place : IsPlaceOf (record { device = record { arch = c.self.inside.arch; columns = c.self.inside.layout.columns; rows = c.self.inside.rows; text_limit = c.self.inside.text_limit }; plan = c.self.inside.layout; histories = c.self.inside.tenancies.items }) c.args.id c.place_of-offset.result = rw (← c.self.view_is) at c.place_of-offset.ensures in
    record { there = stand_in c.self.inside.book c.place_of-offset.result old.arch old.strip c.routed_resources.result.now (in_book_there c.self.inside.book (record { arch = c.self.inside.arch; columns = c.self.inside.layout.columns; rows = c.self.inside.rows; text_limit = c.self.inside.text_limit }) c.place_of-offset.result old c.self.invariant.book.extent (place.stands old (live_is _ c.args.id old live is))) c.routed_resources.ensures.there }

pub invariant_of-self : goal.invariant_of-self
invariant_of-self c =
    let old : History = c.index_mut-tenancy.result.now in
    let live : IsLiveIn c.self.inside.tenancies.items c.args.id = search rules in
    let is : old ≡ get_or c.self.inside.tenancies.items (c.args.id - 1) old = search rules in
    let place : IsPlaceOf (record { device = record { arch = c.self.inside.arch; columns = c.self.inside.layout.columns; rows = c.self.inside.rows; text_limit = c.self.inside.text_limit }; plan = c.self.inside.layout; histories = c.self.inside.tenancies.items }) c.args.id c.place_of-offset.result = rw (← c.self.view_is) at c.place_of-offset.ensures in
    let released : Releases c.self.inside.book (held_at c.place_of-offset.result old) c.release.new.self = released_held c.self.inside.book c.release.new.self c.place_of-offset.result (routed_set (state_of old)) c.routed_resources.result.now c.routed_resources.ensures.exact c.release.ensures in
    rw (set-live c.self.inside.tenancies.items c.args.id old closed_history c.close.new.self live is c.close.ensures, c.remove.ensures)
    (sound_evicted c.self.inside.book c.release.new.self _ c.self.inside.layout.strips c.self.inside.tenancies.items c.args.id c.place_of-offset.result old c.self.invariant live is place.at released)

pub returns : goal.returns
returns c =
    let old : History = c.index_mut-tenancy.result.now in
    let live : IsLiveIn c.self.inside.tenancies.items c.args.id = search rules in
    let is : old ≡ get_or c.self.inside.tenancies.items (c.args.id - 1) old = search rules in
    rw (set-live c.self.inside.tenancies.items c.args.id old closed_history c.close.new.self live is c.close.ensures, c.remove.ensures, ← c.self.view_is) ((rw (live_is _ _ _ live is) refl), refl)
