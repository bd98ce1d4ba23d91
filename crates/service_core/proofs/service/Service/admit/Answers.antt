use Rattle.service_core.proofs.Prelude.{◌≡◌, ◌<◌, ◌+◌, ◌++◌, ◌∷◌, [], length, List, Ok, None, rules, refl, FitsAt, strip_of, offset_of, History, admitted_history, ChecksAdmission}
use Rattle.service_core.proofs.Booking.{sound_admitted}
use Rattle.service_core.proofs.Keeps.{no_strip-next}
use Rattle.service_core.proofs.service.Service.admit.Goals as goal

pub place-requires : goal.place-requires
place-requires c =
    let said : ChecksAdmission c.args.self.now c.args.width (Ok c.in_ok-offset.offset) = c.in_ok-offset.ensures in
    let can : ChecksAdmission _ c.args.width (Ok c.in_ok-offset.offset) = rw (← c.self.view_is) at said in
    let none : strip_of c.self.inside.layout.strips (length c.self.inside.tenancies.items + 1) ≡ None = no_strip-next _ c.self.inside.layout.strips c.self.inside.tenancies.items c.self.invariant.kept in
    let same : c.len.result ≡ length c.self.inside.tenancies.items = search rules in
    let few : length c.self.inside.layout.strips < 64 = can.0.few_strips in
    let fits : FitsAt c.self.inside.layout c.args.width c.in_ok-offset.offset = can.1.0 in
    let new : offset_of c.self.inside.layout.strips (c.len.result + 1) ≡ None = rw (same, none) refl in
    record { few = few; fits = fits; new = new }

pub invariant_of-self-2 : goal.invariant_of-self-2
invariant_of-self-2 c =
    let hs : List History = c.self.inside.tenancies.items in
    let said : ChecksAdmission c.args.self.now c.args.width (Ok c.in_ok-offset.offset) = c.in_ok-offset.ensures in
    let can : ChecksAdmission _ c.args.width (Ok c.in_ok-offset.offset) = rw (← c.self.view_is) at said in
    let few : length hs < 65535 = can.0.ids_left in
    let same : c.len.result ≡ length hs = search rules in
    let items : c.push.new.self.items ≡ hs ++ admitted_history (record { arch = c.self.inside.arch; columns = c.self.inside.layout.columns; rows = c.self.inside.rows; text_limit = c.self.inside.text_limit }) (length hs + 1) c.args.width ∷ [] = search rules in
    rw (c.place.ensures, same, items) (sound_admitted c.self.inside.book _ c.self.inside.layout.strips hs c.args.width c.in_ok-offset.offset c.self.invariant few)

pub returns : goal.returns
returns c =
    let hs : List History = c.self.inside.tenancies.items in
    let said : ChecksAdmission c.args.self.now c.args.width (Ok c.in_ok-offset.offset) = c.in_ok-offset.ensures in
    let can : ChecksAdmission _ c.args.width (Ok c.in_ok-offset.offset) = rw (← c.self.view_is) at said in
    let same : c.len.result ≡ length hs = search rules in
    let items : c.push.new.self.items ≡ hs ++ admitted_history (record { arch = c.self.inside.arch; columns = c.self.inside.layout.columns; rows = c.self.inside.rows; text_limit = c.self.inside.text_limit }) (length hs + 1) c.args.width ∷ [] = search rules in
    rw (c.place.ensures, same, items, ← c.self.view_is) (can.0, refl, can.1, refl)
