-- The crowding of the routing that was asked for.
use Rattle.desk_replies.proofs.Prelude.{◌≡◌, ℕ, Bool, List, Option, Some, None, Result, OnOk, IfSome, subst, Failed, IsCrowdingWith, Crowding, Request, DevicePlan, IsCrowdingFor, IsOveruseBy, IsPlanOf, is_placed, Wish, WritesSome, SharedDevice, IsOveruseOn}

pub found_for : (device : SharedDevice) (wish : Wish) (plan : DevicePlan) (request : Request) (found : Option Crowding) → IsPlanOf device wish plan request → IsCrowdingWith plan request device.tracks found → IfSome found (IsCrowdingFor device wish)
found_for device wish plan request (Some crowding) of is = record { plan = plan; request = request; of = of; found = is }
found_for device wish plan request None of is = tt

-- where the routing of a name is overused, by its wish and the device
pub overuse_so : {S : Type 0} (contents : S → Option (List ℕ)) (has_failed : S → Bool) (a b : S) (given : Option SharedDevice) (device : SharedDevice) (wish all : Wish) (placed : Bool) (name : List ℕ) (r : Result (Unit {0}) Failed) → given ≡ Some device → wish ≡ all → placed ≡ is_placed wish →
    OnOk r (WritesSome contents has_failed a b (IsOveruseBy placed device wish name)) → OnOk r (WritesSome contents has_failed a b (IsOveruseOn given all name))
overuse_so contents has_failed a b given device wish all placed name r e same is h =
    rw e (subst (λ (w : Wish). OnOk r (WritesSome contents has_failed a b (IsOveruseBy (is_placed w) device w name))) same
    (subst (λ (p : Bool). OnOk r (WritesSome contents has_failed a b (IsOveruseBy p device wish name))) is h))
