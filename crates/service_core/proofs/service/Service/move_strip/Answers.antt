use Rattle.service_core.proofs.Prelude.{◌≡◌, ◌-◌, ◌∙◌, List, get_or, rules, sym, subst, PlacedStrip, IsParted, Plan, with_moved, routed_set, Device, History, state_of, IsLiveIn, IsPlaceOf, IsSound}
use Rattle.service_core.proofs.Booking.{in_book_there, stand_in}
use Rattle.service_core.proofs.Keeps.{live_is}
use Rattle.service_core.proofs.Moving.{moved_there, no_one_elses, owns_held, shifted_held, sound_moved, stands_moved}
use Rattle.service_core.proofs.service.Service.move_strip.Goals as goal

pub shift-requires : goal.shift-requires
shift-requires c =
    let old : History = c.index-tenancy.result.now in
    let device : Device = record { arch = c.self.inside.arch; columns = c.self.inside.layout.columns; rows = c.self.inside.rows; text_limit = c.self.inside.text_limit } in
    let strips : List PlacedStrip = c.self.inside.layout.strips in
    let hs : List History = c.self.inside.tenancies.items in
    let live : IsLiveIn hs c.args.id = search rules in
    let is : old ≡ get_or hs (c.args.id - 1) old = search rules in
    let place : IsPlaceOf (record { device = device; plan = c.self.inside.layout; histories = hs }) c.args.id c.place_of-from.result = rw (← c.self.view_is) at c.place_of-from.ensures in
    let moves : IsParted (with_moved c.self.inside.layout c.args.id c.args.offset) × (c.move_to.new.self ≡ with_moved c.self.inside.layout c.args.id c.args.offset) = moved_there c.self.inside.layout c.args.id c.args.offset c.move_to.result c.move_to.new.self c.move_to.ensures (sym c.is_err.ensures.value ∙ c.if-is_err.false) in
    let stands_now = in_book_there c.self.inside.book device c.place_of-from.result old c.self.invariant.book.extent (place.stands old (live_is hs c.args.id old live is)) in
    let stands_then = in_book_there c.self.inside.book device c.args.offset old c.self.invariant.book.extent (stands_moved c.self.inside.book device strips hs c.args.id c.place_of-from.result c.args.offset old c.self.invariant live is place.at moves.0) in
    record {
      left = stand_in c.self.inside.book c.place_of-from.result old.arch old.strip c.routed_resources.result.now stands_now c.routed_resources.ensures.there;
      taken = stand_in c.self.inside.book c.args.offset old.arch old.strip c.routed_resources.result.now stands_then c.routed_resources.ensures.there;
      owned = owns_held c.self.inside.book device strips hs c.args.id c.place_of-from.result c.args.offset old c.self.invariant live is place.at moves.0 c.routed_resources.result.now c.routed_resources.ensures.exact;
      free = no_one_elses c.self.inside.book device strips hs c.args.id c.place_of-from.result c.args.offset old c.self.invariant live is place.at moves.0 c.routed_resources.result.now c.routed_resources.ensures.exact;
    }

pub invariant_of-self-2 : goal.invariant_of-self-2
invariant_of-self-2 c =
    let old : History = c.index-tenancy.result.now in
    let live : IsLiveIn c.self.inside.tenancies.items c.args.id = search rules in
    let is : old ≡ get_or c.self.inside.tenancies.items (c.args.id - 1) old = search rules in
    let place : IsPlaceOf (record { device = record { arch = c.self.inside.arch; columns = c.self.inside.layout.columns; rows = c.self.inside.rows; text_limit = c.self.inside.text_limit }; plan = c.self.inside.layout; histories = c.self.inside.tenancies.items }) c.args.id c.place_of-from.result = rw (← c.self.view_is) at c.place_of-from.ensures in
    let moves : IsParted (with_moved c.self.inside.layout c.args.id c.args.offset) × (c.move_to.new.self ≡ with_moved c.self.inside.layout c.args.id c.args.offset) = moved_there c.self.inside.layout c.args.id c.args.offset c.move_to.result c.move_to.new.self c.move_to.ensures (sym c.is_err.ensures.value ∙ c.if-is_err.false) in
    subst (λ (p : Plan). IsSound c.shift.new.self (record { arch = c.self.inside.arch; columns = p.columns; rows = c.self.inside.rows; text_limit = c.self.inside.text_limit }) p.strips c.self.inside.tenancies.items) (sym moves.1)
    (sound_moved c.self.inside.book (record { arch = c.self.inside.arch; columns = c.self.inside.layout.columns; rows = c.self.inside.rows; text_limit = c.self.inside.text_limit }) c.self.inside.layout.strips c.self.inside.tenancies.items c.args.id c.place_of-from.result c.args.offset old c.self.invariant live is place.at moves.0 c.shift.new.self
    (shifted_held c.self.inside.book c.shift.new.self c.args.id c.place_of-from.result c.args.offset (routed_set (state_of old)) c.routed_resources.result.now c.routed_resources.ensures.exact c.shift.ensures))
