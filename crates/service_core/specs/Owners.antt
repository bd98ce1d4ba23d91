-- Who owns which pins, wires and pads of the device.
use Rattle.std.specs.Prelude.{ℕ, ◌≡◌, List, map, true, AllPairs, Contains, IsSomeAnd, ◌↔◌}
use Rattle.service_core.specs.Prelude.{Resource, IsEarlier, has, moved_resource, offset_of, Owned, routed_set}
use Rattle.service_core.specs.History.{state_of}
use Rattle.service_core.specs.Service.{ServiceState, live_of}

-- a live tenancy owns what it has routed, at its strip's offset on the device
abbrev pub IsOwner : ServiceState → Resource → ℕ → Type 0
IsOwner state resource id =
    IsSomeAnd (live_of state.histories id) (λ h. IsSomeAnd (offset_of state.plan.strips id) (λ offset. has (map (moved_resource offset) (routed_set (state_of h))) resource ≡ true))

-- nothing has two owners
abbrev pub HasOneOwner : ServiceState → Type 0
HasOneOwner state = (resource : Resource) (id other : ℕ) → IsOwner state resource id → IsOwner state resource other → id ≡ other

-- the list has exactly what is owned, each with its owner, in node order
abbrev pub ListsOwnersOf : ServiceState → List Owned → Type 0
ListsOwnersOf state list = AllPairs (λ a b. IsEarlier a.resource b.resource) list × ((owned : Owned) → Contains list owned ↔ IsOwner state owned.resource owned.id)
