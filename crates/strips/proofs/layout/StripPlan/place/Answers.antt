use Rattle.strips.proofs.Prelude.{HasRoomFor, Plan}
use Rattle.strips.proofs.Laid.{IsLaidOut-with}
use Rattle.strips.proofs.layout.StripPlan.place.Goals as goal

pub invariant_of-self : goal.invariant_of-self
invariant_of-self c =
    let plan : Plan = record { columns = c.self.inside.columns; strips = c.self.inside.strips.items } in
    let can : HasRoomFor plan c.args.strip = rw (← c.self.view_is) at c.requires in
    rw c.push.ensures.items (IsLaidOut-with plan c.args.strip c.self.invariant can.few can.fits can.new)
