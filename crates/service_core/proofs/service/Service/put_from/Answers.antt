use Rattle.service_core.proofs.Prelude.{◌≡◌, ◌-◌, ◌<◌, length, get_or, true, Ok, Err, rules, sym, ap, subst, ◌∙◌, arith, History, IsLiveIn, IsPlaceOf, PutsHistory, StandsIn, extent_of}
use Rattle.service_core.proofs.Booking.{in_book_there, put_free, put_live, sound_back, sound_put}
use Rattle.service_core.proofs.Keeps.{history-live, live_is}
use Rattle.service_core.proofs.Serving.{Puts-recorded, Puts-no_memory, origin_at}
use Rattle.service_core.proofs.service.Service.put_from.Goals as goal

pub put-requires-clause-id : goal.put-requires-clause-id
put-requires-clause-id c =
    let old : History = c.index_mut-tenancy.result.now in
    let live : IsLiveIn c.self.inside.tenancies.items c.id-id.result = search rules in
    let is : old ≡ get_or c.self.inside.tenancies.items (c.id-id.result - 1) old = search rules in
    let its : old.id ≡ c.id-id.result = c.self.invariant.kept.ids c.id-id.result old (history-live _ _ _ live is) in
    sym (its ∙ c.id-id.ensures)

pub put-requires-clause-origin : goal.put-requires-clause-origin
put-requires-clause-origin c =
    let old : History = c.index_mut-tenancy.result.now in
    let live : IsLiveIn c.self.inside.tenancies.items c.id-id.result = search rules in
    let is : old ≡ get_or c.self.inside.tenancies.items (c.id-id.result - 1) old = search rules in
    let live_there : IsLiveIn c.self.inside.tenancies.items c.args.done.id = rw c.id-id.ensures at live in
    let is_there : old ≡ get_or c.self.inside.tenancies.items (c.args.done.id - 1) old = rw c.id-id.ensures at is in
    origin_at c.args.self.now old c.args.done c.args.origin (rw (← c.self.view_is) live_there) (rw (← c.self.view_is) is_there) c.requires

pub claim-requires : goal.claim-requires
claim-requires c =
    let old : History = c.index_mut-tenancy.result.now in
    let live : IsLiveIn c.self.inside.tenancies.items c.id-id.result = search rules in
    let is : old ≡ get_or c.self.inside.tenancies.items (c.id-id.result - 1) old = search rules in
    let place : IsPlaceOf (record { device = record { arch = c.self.inside.arch; columns = c.self.inside.layout.columns; rows = c.self.inside.rows; text_limit = c.self.inside.text_limit }; plan = c.self.inside.layout; histories = c.self.inside.tenancies.items }) c.id-id.result c.place_of-offset.result = rw (← c.self.view_is) at c.place_of-offset.ensures in
    let flag : old.live ≡ true = ap (λ (h : History). h.live) is ∙ live.flag old in
    let put : PutsHistory old c.args.done (Ok c.in-Ok.reply) c.put.new.self = subst (λ r. PutsHistory old c.args.done r c.put.new.self) c.in-Ok.is c.put.ensures in
    let stand : StandsIn (extent_of c.self.inside.arch c.self.inside.layout.columns c.self.inside.rows) c.place_of-offset.result c.put.new.self.arch c.put.new.self.strip =
    subst (λ (h : History). StandsIn (extent_of c.self.inside.arch c.self.inside.layout.columns c.self.inside.rows) c.place_of-offset.result h.arch h.strip) (sym put.2) (place.stands old (live_is _ c.id-id.result old live is)) in
    record {
      live = put_live old c.args.done c.in-Ok.reply c.put.new.self put ∙ flag;
      few = omega (arith, live.within, c.self.invariant.kept.few);
      there = in_book_there c.self.inside.book (record { arch = c.self.inside.arch; columns = c.self.inside.layout.columns; rows = c.self.inside.rows; text_limit = c.self.inside.text_limit }) c.place_of-offset.result c.put.new.self c.self.invariant.book.extent stand;
      free = put_free c.self.inside.book (record { arch = c.self.inside.arch; columns = c.self.inside.layout.columns; rows = c.self.inside.rows; text_limit = c.self.inside.text_limit }) c.self.inside.layout.strips c.self.inside.tenancies.items c.id-id.result c.place_of-offset.result old c.args.done c.in-Ok.reply c.put.new.self c.self.invariant place.parted live is place.at put;
    }

pub invariant_of-self-in-Ok : goal.invariant_of-self-in-Ok
invariant_of-self-in-Ok c =
    let old : History = c.index_mut-tenancy.result.now in
    let live : IsLiveIn c.self.inside.tenancies.items c.id-id.result = search rules in
    let is : old ≡ get_or c.self.inside.tenancies.items (c.id-id.result - 1) old = search rules in
    let place : IsPlaceOf (record { device = record { arch = c.self.inside.arch; columns = c.self.inside.layout.columns; rows = c.self.inside.rows; text_limit = c.self.inside.text_limit }; plan = c.self.inside.layout; histories = c.self.inside.tenancies.items }) c.id-id.result c.place_of-offset.result = rw (← c.self.view_is) at c.place_of-offset.ensures in
    let flag : old.live ≡ true = ap (λ (h : History). h.live) is ∙ live.flag old in
    let put : PutsHistory old c.args.done (Ok c.in-Ok.reply) c.put.new.self = subst (λ r. PutsHistory old c.args.done r c.put.new.self) c.in-Ok.is c.put.ensures in
    sound_put c.self.inside.book c.claim.new.book _ c.self.inside.layout.strips c.self.inside.tenancies.items c.id-id.result c.place_of-offset.result old c.args.done c.in-Ok.reply c.put.new.self c.self.invariant live is place.at flag put
    (put_free c.self.inside.book (record { arch = c.self.inside.arch; columns = c.self.inside.layout.columns; rows = c.self.inside.rows; text_limit = c.self.inside.text_limit }) c.self.inside.layout.strips c.self.inside.tenancies.items c.id-id.result c.place_of-offset.result old c.args.done c.in-Ok.reply c.put.new.self c.self.invariant place.parted live is place.at put) c.claim.ensures

pub invariant_of-self-in-Err : goal.invariant_of-self-in-Err
invariant_of-self-in-Err c =
    let old : History = c.index_mut-tenancy.result.now in
    let live : IsLiveIn c.self.inside.tenancies.items c.id-id.result = search rules in
    let is : old ≡ get_or c.self.inside.tenancies.items (c.id-id.result - 1) old = search rules in
    let put : PutsHistory old c.args.done (Err c.in-Err.back) c.put.new.self = subst (λ r. PutsHistory old c.args.done r c.put.new.self) c.in-Err.is c.put.ensures in
    sound_back c.self.inside.book _ c.self.inside.layout.strips c.self.inside.tenancies.items c.id-id.result old c.args.done c.in-Err.back c.put.new.self c.self.invariant live is put

pub returns-in-Ok : goal.returns-in-Ok
returns-in-Ok c =
    let old : History = c.index_mut-tenancy.result.now in
    let live : IsLiveIn c.self.inside.tenancies.items c.id-id.result = search rules in
    let is : old ≡ get_or c.self.inside.tenancies.items (c.id-id.result - 1) old = search rules in
    let put : PutsHistory old c.args.done (Ok c.in-Ok.reply) c.put.new.self = subst (λ r. PutsHistory old c.args.done r c.put.new.self) c.in-Ok.is c.put.ensures in
    let live_there : IsLiveIn c.self.inside.tenancies.items c.args.done.id = rw c.id-id.ensures at live in
    let is_there : old ≡ get_or c.self.inside.tenancies.items (c.args.done.id - 1) old = rw c.id-id.ensures at is in
    rw (c.id-id.ensures, ← c.self.view_is) (Puts-recorded _ old c.args.done c.in-Ok.reply c.put.new.self live_there is_there put)

pub returns-in-Err : goal.returns-in-Err
returns-in-Err c =
    let old : History = c.index_mut-tenancy.result.now in
    let live : IsLiveIn c.self.inside.tenancies.items c.id-id.result = search rules in
    let is : old ≡ get_or c.self.inside.tenancies.items (c.id-id.result - 1) old = search rules in
    let put : PutsHistory old c.args.done (Err c.in-Err.back) c.put.new.self = subst (λ r. PutsHistory old c.args.done r c.put.new.self) c.in-Err.is c.put.ensures in
    let live_there : IsLiveIn c.self.inside.tenancies.items c.args.done.id = rw c.id-id.ensures at live in
    let is_there : old ≡ get_or c.self.inside.tenancies.items (c.args.done.id - 1) old = rw c.id-id.ensures at is in
    let room : length old.entries < 65536 = search rules in
    rw (c.id-id.ensures, ← c.self.view_is) (Puts-no_memory _ old c.args.done c.in-Err.back c.put.new.self live_there is_there room put)
