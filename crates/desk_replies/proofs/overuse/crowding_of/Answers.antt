use Rattle.desk_replies.proofs.Prelude.{subst, IfSome, IsCrowdingFor, Wish}
use Rattle.desk_replies.proofs.OveruseLemmas.{found_for}
use Rattle.desk_replies.proofs.overuse.crowding_of.Goals as goal

pub returns-in-Ok : goal.returns-in-Ok
returns-in-Ok c =
    rw c.in_ok-device.was (subst (λ (wish : Wish). IfSome c.in-Ok.found (IsCrowdingFor c.in_ok-device.device wish)) c.wish_of-wish.ensures
    (found_for c.in_ok-device.device _ c.in_ok-plan.plan c.in_ok-plan.request c.in-Ok.found c.in_ok-plan.ensures.planned c.in-Ok.ensures.crowding))
