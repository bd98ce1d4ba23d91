use Rattle.service_core.proofs.Prelude.{◌≡◌, ◌-◌, get_or, rules, sym, ◌∙◌, History, IsLiveIn}
use Rattle.service_core.proofs.Keeps.{history-live}
use Rattle.service_core.proofs.Booking.{sound_given}
use Rattle.service_core.proofs.Serving.{IsGivenBack-live}
use Rattle.service_core.proofs.service.Service.give_back.Goals as goal

pub give_back-requires-clause-id : goal.give_back-requires-clause-id
give_back-requires-clause-id c =
    let old : History = c.index_mut.result.now in
    let live : IsLiveIn c.self.inside.tenancies.items c.id-id.result = search rules in
    let is : old ≡ get_or c.self.inside.tenancies.items (c.id-id.result - 1) old = search rules in
    let its : old.id ≡ c.id-id.result = c.self.invariant.kept.ids c.id-id.result old (history-live _ _ _ live is) in
    sym (its ∙ c.id-id.ensures)

pub invariant_of-self : goal.invariant_of-self
invariant_of-self c =
    let old : History = c.index_mut.result.now in
    let live : IsLiveIn c.self.inside.tenancies.items c.id-id.result = search rules in
    let is : old ≡ get_or c.self.inside.tenancies.items (c.id-id.result - 1) old = search rules in
    sound_given c.self.inside.book _ c.self.inside.layout.strips c.self.inside.tenancies.items c.id-id.result old c.args.back c.give_back.new.self c.self.invariant live is c.give_back.ensures

pub returns-then-is_live : goal.returns-then-is_live
returns-then-is_live c =
    let old : History = c.index_mut.result.now in
    let live_there : IsLiveIn c.self.inside.tenancies.items c.id-id.result = search rules in
    let live : IsLiveIn c.self.inside.tenancies.items c.args.back.step.id = rw c.id-id.ensures at live_there in
    let is_there : old ≡ get_or c.self.inside.tenancies.items (c.id-id.result - 1) old = search rules in
    let is : old ≡ get_or c.self.inside.tenancies.items (c.args.back.step.id - 1) old = rw c.id-id.ensures at is_there in
    rw (c.id-id.ensures, ← c.self.view_is) (IsGivenBack-live _ old c.args.back c.give_back.new.self live is c.give_back.ensures)
