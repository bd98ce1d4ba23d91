use Rattle.service_core.proofs.Prelude.{◌≡◌, ◌-◌, get_or, rules, subst, History, IsLiveIn, IsTaken, ServiceState}
use Rattle.service_core.proofs.Keeps.{history-live}
use Rattle.service_core.proofs.Booking.{sound_taken}
use Rattle.service_core.proofs.Serving.{IsTaken-live, written}
use Rattle.service_core.proofs.service.Service.take.Goals as goal

pub invariant_of-self : goal.invariant_of-self
invariant_of-self c =
    let live : IsLiveIn c.self.inside.tenancies.items c.args.id = search rules in
    let is : c.index_mut.result.now ≡ get_or c.self.inside.tenancies.items (c.args.id - 1) c.index_mut.result.now = search rules in
    sound_taken c.self.inside.book _ c.self.inside.layout.strips c.self.inside.tenancies.items c.args.id c.index_mut.result.now c.take.result c.take.new.self c.self.invariant live is c.take.ensures

pub returns : goal.returns
returns c =
    let old : History = c.index_mut.result.now in
    let live : IsLiveIn c.self.inside.tenancies.items c.args.id = search rules in
    let is : old ≡ get_or c.self.inside.tenancies.items (c.args.id - 1) old = search rules in
    let its : old.id ≡ c.args.id = c.self.invariant.kept.ids c.args.id old (history-live _ _ _ live is) in
    let state : ServiceState = record { device = record { arch = c.self.inside.arch; columns = c.self.inside.layout.columns; rows = c.self.inside.rows; text_limit = c.self.inside.text_limit }; plan = c.self.inside.layout; histories = c.self.inside.tenancies.items } in
    let P : ServiceState → Type 0 = λ s. IsTaken s c.args.id c.take.result (written state c.args.id c.take.new.self) in
    subst P c.self.view_is (IsTaken-live state c.args.id old c.take.result c.take.new.self live is its c.take.ensures)
