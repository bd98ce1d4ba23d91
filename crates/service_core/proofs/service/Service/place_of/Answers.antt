use Rattle.service_core.proofs.Prelude.{◌≡◌, Some, refl, subst, sym, ◌∙◌, IsSome, offset_of}
use Rattle.service_core.proofs.Booking.{has_offset, live_some, stands_there}
use Rattle.service_core.proofs.service.Service.place_of.Goals as goal

pub unwrap-requires : goal.unwrap-requires
unwrap-requires c =
    let h = live_some c.args.self.now.device c.args.self.now.histories c.args.id c.requires in
    let has = has_offset c.args.self.now.plan.strips c.args.self.now.histories c.args.id h.0 c.offset.ensures.parted.of_live h.1 in
    subst IsSome (sym (c.offset.ensures.value ∙ has.1)) refl

pub returns : goal.returns
returns c =
    let at : offset_of c.args.self.now.plan.strips c.args.id ≡ Some c.unwrap.result = sym c.offset.ensures.value ∙ c.unwrap.ensures in
    record {
      at = at;
      parted = c.offset.ensures.parted.parted;
      stands = λ h live. stands_there c.args.self.now c.args.id c.unwrap.result h c.offset.ensures.parted c.offset.ensures.alone at live;
    }
