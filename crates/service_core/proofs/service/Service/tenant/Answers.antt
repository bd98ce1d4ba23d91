use Rattle.service_core.proofs.Prelude.{◌≡◌, ◌-◌, get_or, true, rules, ap, ◌∙◌, History, IsLiveIn, IsPlaceOf}
use Rattle.service_core.proofs.Booking.{in_book_there, sound_served}
use Rattle.service_core.proofs.Keeps.{live_is}
use Rattle.service_core.proofs.Serving.{IsServed-ok, IsServed-full, IsServed-no_memory}
use Rattle.service_core.proofs.service.Service.tenant.Goals as goal
use Rattle.service_core.proofs.service.Service.tenant.Goals.{in-Ok, in-Err-NoMemory, in-Err-JournalFull}

pub serve-requires-clause-there : goal.serve-requires-clause-there
serve-requires-clause-there c =
    let old : History = c.index_mut-tenancy.result.now in
    let live : IsLiveIn c.self.inside.tenancies.items c.args.id = search rules in
    let is : old ≡ get_or c.self.inside.tenancies.items (c.args.id - 1) old = search rules in
    let place : IsPlaceOf (record { device = record { arch = c.self.inside.arch; columns = c.self.inside.layout.columns; rows = c.self.inside.rows; text_limit = c.self.inside.text_limit }; plan = c.self.inside.layout; histories = c.self.inside.tenancies.items }) c.args.id c.place_of-offset.result = rw (← c.self.view_is) at c.place_of-offset.ensures in
    in_book_there c.self.inside.book (record { arch = c.self.inside.arch; columns = c.self.inside.layout.columns; rows = c.self.inside.rows; text_limit = c.self.inside.text_limit }) c.place_of-offset.result old c.self.invariant.book.extent (place.stands old (live_is _ c.args.id old live is))

pub invariant_of-self : goal.invariant_of-self
invariant_of-self c =
    let old : History = c.index_mut-tenancy.result.now in
    let live : IsLiveIn c.self.inside.tenancies.items c.args.id = search rules in
    let is : old ≡ get_or c.self.inside.tenancies.items (c.args.id - 1) old = search rules in
    let flag : old.live ≡ true = ap (λ (h : History). h.live) is ∙ live.flag old in
    let place : IsPlaceOf (record { device = record { arch = c.self.inside.arch; columns = c.self.inside.layout.columns; rows = c.self.inside.rows; text_limit = c.self.inside.text_limit }; plan = c.self.inside.layout; histories = c.self.inside.tenancies.items }) c.args.id c.place_of-offset.result = rw (← c.self.view_is) at c.place_of-offset.ensures in
    sound_served c.self.inside.book c.serve.new.book _ c.self.inside.layout.strips c.self.inside.tenancies.items c.args.id c.place_of-offset.result old c.args.command c.serve.result c.serve.new.self c.self.invariant live is place.at flag c.serve.ensures.served c.serve.ensures.book

pub returns : goal.returns
returns c =
    let live : IsLiveIn c.self.inside.tenancies.items c.args.id = search rules in
    let is : c.index_mut-tenancy.result.now ≡ get_or c.self.inside.tenancies.items (c.args.id - 1) c.index_mut-tenancy.result.now = search rules in
    elim c.match-serve.branch [
      | in-Ok w ↦ rw (w.result-is, ← c.self.view_is, c.len-place.ensures) (IsServed-ok _ c.args.id c.index_mut-tenancy.result.now c.args.command (w.in-Ok.command, w.in-Ok.reply) c.serve.new.self live is w.in-Ok.ensures.served)
      | in-Err-NoMemory w ↦ rw (w.result-is, ← c.self.view_is) (IsServed-no_memory _ c.args.id c.index_mut-tenancy.result.now c.args.command c.serve.new.self live is (rw w.in-Err-NoMemory.field-0-is at w.in-Err-NoMemory.ensures.served))
      | in-Err-JournalFull w ↦ rw (w.result-is, ← c.self.view_is) (IsServed-full _ c.args.id c.index_mut-tenancy.result.now c.args.command c.serve.new.self live is (rw w.in-Err-JournalFull.field-0-is at w.in-Err-JournalFull.ensures.served))
    ]
