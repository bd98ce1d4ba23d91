-- Who owns what after each change, and that nothing has two owners.
use Rattle.service_core.proofs.Prelude.{◌≡◌, ◌≢◌, ℕ, ◌+◌, ◌-◌, ◌≤◌, List, [], ◌∷◌, ◌++◌, length, get_or, map, Bool, true, false, eqb, Some, None, refl, ap, ◌∙◌, arith, ◌↔◌, option_map, if◌then◌else◌, set, Decides-eqb, Resource, has, moved_resource, PlacedStrip, IsParted, Plan, offset_of, strip_of, strips_without, apart_of, strip_of-without, strip_of-push, routed_set, Device, History, state_of, closed_history, if_live, ServiceState, admitted_history, history_of, live_of, live_width, with_changed, placed_width, HasOneOwner, IsOwner, IsLiveIn, IsService, placed_at, routed_in}
use Rattle.service_core.proofs.Lists.{history_of-modified, history_of-past, history_of-push}
use Rattle.service_core.proofs.Keeps.{history-live, set-live}
use Rattle.service_core.proofs.Held.{events_stay, start_holds}
use Rattle.service_core.proofs.Holdings.{has-moved}
use Rattle.service_core.proofs.Columns.{columns_of_routed}

-- what the tenancy of that id owns
abbrev pub owned_in : List PlacedStrip → List History → ℕ → List Resource
owned_in strips hs id = placed_at (offset_of strips id) (routed_in (live_of hs id))

by_live : (h : History) → routed_in (if_live (Some h)) ≡ (if h.live then routed_set (state_of h) else [])
by_live h = elim h.live as (λ b. routed_in (if b then Some h else None) ≡ (if b then routed_set (state_of h) else [])) [ true ↦ refl | false ↦ refl ]

pub other_owned : (strips : List PlacedStrip) (hs : List History) (id k : ℕ) (change : History → History) → eqb k id ≡ false → owned_in strips (with_changed hs id change) k ≡ owned_in strips hs k
other_owned strips hs id k change e = grind (arith, history_of-modified)

pub same_owned : (strips : List PlacedStrip) (hs : List History) (id : ℕ) (change : History → History) →
    ((h : History) → history_of hs id ≡ Some h → ((change h).live ≡ h.live) × (routed_set (state_of (change h)) ≡ routed_set (state_of h))) →
    (k : ℕ) → owned_in strips (with_changed hs id change) k ≡ owned_in strips hs k
same_owned strips hs id change same k = grind (arith, Decides-eqb, history_of-modified)

-- what a live tenancy owns, by its strip's offset
pub own_owned : (strips : List PlacedStrip) (hs : List History) (id offset : ℕ) (h : History) → offset_of strips id ≡ Some offset → live_of hs id ≡ Some h → owned_in strips hs id ≡ map (moved_resource offset) (routed_set (state_of h))
own_owned strips hs id offset h at live = ap (λ o. placed_at o (routed_in (live_of hs id))) at ∙ ap (λ o. map (moved_resource offset) (routed_in o)) live

-- a live tenancy is written back
pub set_live_of : (hs : List History) (id : ℕ) (old new : History) → IsLiveIn hs id → old ≡ get_or hs (id - 1) old → new.live ≡ true → live_of (set hs (id - 1) new) id ≡ Some new
set_live_of hs id old new live is its =
    let written : set hs (id - 1) new ≡ with_changed hs id (λ h. new) = set-live hs id old (λ h. new) new live is refl in
    let same : eqb id id ≡ true = (Decides-eqb id id).1 refl in
    ap (λ xs. live_of xs id) written
    ∙ (ap if_live (history_of-modified hs id id (λ h. new) ∙ (ap (λ b. if b then option_map (λ h. new) (history_of hs id) else history_of hs id) same ∙ ap (option_map (λ h. new)) (history-live hs id old live is)))
    ∙ ap (λ b. if b then Some new else None) its)

pub set_other : (strips : List PlacedStrip) (hs : List History) (id k : ℕ) (old new : History) → IsLiveIn hs id → old ≡ get_or hs (id - 1) old → k ≢ id → owned_in strips (set hs (id - 1) new) k ≡ owned_in strips hs k
set_other strips hs id k old new live is differ =
    ap (λ xs. owned_in strips xs k) (set-live hs id old (λ h. new) new live is refl) ∙ other_owned strips hs id k (λ h. new) (differs (eqb k id) refl)
  where
    differs : (b : Bool) → eqb k id ≡ b → eqb k id ≡ false
    differs true e = absurd (differ ((Decides-eqb k id).0 e))
    differs false e = e

-- a tenancy that is evicted
pub evicted_owned : (strips : List PlacedStrip) (hs : List History) (id : ℕ) → owned_in (strips_without strips id) (with_changed hs id closed_history) id ≡ []
evicted_owned strips hs id = grind (arith, strip_of-without)

pub evicted_other : (strips : List PlacedStrip) (hs : List History) (id k : ℕ) → k ≢ id → owned_in (strips_without strips id) (with_changed hs id closed_history) k ≡ owned_in strips hs k
evicted_other strips hs id k differ = grind (arith, strip_of-without, other_owned)

-- one that is admitted
pub admitted_owned : (device : Device) (strips : List PlacedStrip) (hs : List History) (width offset k : ℕ) → IsService device strips hs →
    owned_in (strips ++ record { id = length hs + 1; offset = offset; width = width } ∷ []) (hs ++ admitted_history device (length hs + 1) width ∷ []) k ≡ owned_in strips hs k
admitted_owned device strips hs width offset k was = grind (arith, history_of-past, history_of-push, start_holds, strip_of-push)

-- the strip and the columns of what a tenancy owns
record OwnsAt (strips : List PlacedStrip) (k : ℕ) (r : Resource) (s : PlacedStrip) : Type 0 where
  found : strip_of strips k ≡ Some s
  from : s.offset ≤ r.x
  to : r.x ≤ s.offset + s.width

-- it is in the columns of its strip
pub in_window : (offset : ℕ) (h : History) (r : Resource) → has (map (moved_resource offset) (routed_set (state_of h))) r ≡ true → (offset ≤ r.x) × (r.x ≤ offset + h.strip.width)
in_window offset h r is = grind (arith, has-moved, columns_of_routed, events_stay)

owns_at : (strips : List PlacedStrip) (hs : List History) (k : ℕ) (r : Resource) → placed_width strips k ≡ live_width hs k → has (owned_in strips hs k) r ≡ true → (s : PlacedStrip) × OwnsAt strips k r s
owns_at strips hs k r linked is = grind (arith, in_window)

-- nobody else owns what is in the columns of one strip
pub nobody_else : (plan : Plan) (hs : List History) (id k : ℕ) (s : PlacedStrip) (r : Resource) → IsParted plan → ((j : ℕ) → placed_width plan.strips j ≡ live_width hs j) →
    strip_of plan.strips id ≡ Some s → s.offset ≤ r.x → r.x ≤ s.offset + s.width → has (owned_in plan.strips hs k) r ≡ true → k ≢ id → ⊥
nobody_else plan hs id k s r parted linked found from to is differ = grind (arith, owns_at, apart_of)

-- an owner has what its tenancy occupies, at its strip's offset
pub owner_has : (state : ServiceState) (r : Resource) (id : ℕ) → IsOwner state r id ↔ (has (owned_in state.plan.strips state.histories id) r ≡ true)
owner_has state r id = grind arith

-- nothing has two owners
pub one_owner : (state : ServiceState) → IsParted state.plan → ((j : ℕ) → placed_width state.plan.strips j ≡ live_width state.histories j) → HasOneOwner state
one_owner state parted linked = grind (arith, owns_at, owner_has, nobody_else)
