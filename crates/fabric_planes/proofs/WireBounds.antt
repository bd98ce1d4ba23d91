-- Lower bounds of the ways from a wire in its track's plane.
use Rattle.fabric_planes.proofs.Prelude.{◌≡◌, ℕ, ◌+◌, ◌*◌, ◌<◌, ◌≤◌, List, [], ◌∷◌, sym, subst, arith, true, slice_index, sum_by, NodeKind, Node, IsWire, Basis, IsBasis, graph_of, IsLowerBound, AreAheads, AreFars, HaveBounds, wires_apart, IsWireOf, Terminals, shows, labels_of, planes_of, IsNetSearch, IsAtSide, IsBySide, IsWireAt}
use Rattle.std.specs.Prelude.{Some}
use Rattle.fabric_planes.proofs.Nearer.{no_wires}
use Rattle.fabric_planes.proofs.PlaneWays.{wire_way}

pub wire_shown : (strip : _) (t : Terminals) (track : ℕ) (kind : NodeKind) (v : Node) → IsWire kind → v.n ≡ track → shows strip t track kind v ≡ true
wire_shown strip t track kind v w e = grind arith

module _ (basis : Basis) (sink : Node) where
  abbrev node : ℕ → Node
  node = (graph_of basis).node

  abbrev pub By : List ℕ → List ℕ → ℕ → ℕ → Type 0
  By pins lasts number sum = IsBySide basis number sink (λ side. slice_index pins side) (λ side track. slice_index lasts (side * basis.arch.tracks + track)) sum

  abbrev pub At : ℕ → ℕ → Type 0
  At side number = IsAtSide sink side (node number).kind (node number).x (node number).y

  -- from a wire that is at no side
  pub sharp_low : (pins lasts : List ℕ) (far : ℕ → ℕ) (track number sum r : ℕ) → ((side : ℕ) → At side number → ⊥)
      → ((side last : ℕ) → IsWireAt basis last → At side last → far side ≤ wires_apart (node number) (node last))
      → ((side : ℕ) → side < 4 → r ≤ far side + slice_index lasts (side * basis.arch.tracks + track))
      → (node number).n ≡ track → By pins lasts number sum → r ≤ sum
  sharp_low pins lasts far track number sum r aside near low track_is by = grind arith

  -- a wire of which the table tells wires ahead is at no side
  pub far_aside : (aheads : List ℕ) (place number : ℕ) → AreAheads basis sink aheads → (slice_index aheads place ≡ 0 → ⊥) → IsWireOf basis place number → (side : ℕ) → At side number → ⊥
  far_aside aheads place number are some w side own = grind (arith, no_wires (node number))

  -- the distances from the sides
  pub fars_near : (top bottom right left : List ℕ) (place number : ℕ) → AreFars basis sink 0 top → AreFars basis sink 1 bottom → AreFars basis sink 2 right → AreFars basis sink 3 left → IsWireOf basis place number
      → (side last : ℕ) → IsWireAt basis last → At side last
      → slice_index (slice_index top place ∷ slice_index bottom place ∷ slice_index right place ∷ slice_index left place ∷ []) side ≤ wires_apart (node number) (node last)
  fars_near top bottom right left place number a b c d w side last at_last at = search arith

  -- the least of the sums over four sides
  pub least_sum : (lasts : List ℕ) (n track top bottom right left r : ℕ) → n ≡ basis.arch.tracks → r ≤ top + slice_index lasts track → r ≤ bottom + slice_index lasts (n + track)
      → r ≤ right + slice_index lasts (2 * n + track) → r ≤ left + slice_index lasts (3 * n + track)
      → (side : ℕ) → side < 4 → r ≤ slice_index (top ∷ bottom ∷ right ∷ left ∷ []) side + slice_index lasts (side * basis.arch.tracks + track)
  least_sum lasts n track top bottom right left r e a b c d side few = grind arith

module _ {basis : Basis} (is : IsBasis basis) (t : Terminals) (cost : ℕ → ℕ) (starts : List ℕ) (goal : ℕ) (search : IsNetSearch basis cost starts goal t) where
  -- a bound of the costs by sides is one of the ways
  pub wire_bound : (pins lasts : List ℕ) → HaveBounds basis cost t.sink pins lasts → (track place number r : ℕ) → track < basis.arch.tracks → IsWireOf basis place number → ((graph_of basis).node number).n ≡ track
      → ((sum : ℕ) → By basis t.sink pins lasts number sum → r ≤ sum)
      → IsLowerBound ((planes_of basis cost starts goal t).plane track) (planes_of basis cost starts goal t).exit place (Some r)
  unfolding labels_of
  wire_bound pins lasts bounds track place number r few w n low rest way =
      let shown = wire_shown basis.strip t track ((graph_of basis).node number).kind ((graph_of basis).node number) w.wire.wire n in
      let bounds_at : HaveBounds basis cost ((graph_of basis).node goal) pins lasts = subst (λ (sink : Node). HaveBounds basis cost sink pins lasts) (sym search.terminals.goal_is) bounds in
      let by = wire_way is search track place number few (record { wire = w.wire; track_is = n; is_at = w.is_at; shown = shown }) (λ side. slice_index pins side) (λ side track. slice_index lasts (side * basis.arch.tracks + track)) bounds_at rest way in
      low (sum_by ((planes_of basis cost starts goal t).plane track).cost rest) (subst (λ (sink : Node). By basis sink pins lasts number (sum_by ((planes_of basis cost starts goal t).plane track).cost rest)) search.terminals.goal_is by)

pub bound_at_exit : (basis : Basis) (t : Terminals) (cost : ℕ → ℕ) (starts : List ℕ) (goal track place exit r : ℕ) → exit ≡ (planes_of basis cost starts goal t).exit
    → IsLowerBound ((planes_of basis cost starts goal t).plane track) exit place (Some r) → IsLowerBound ((planes_of basis cost starts goal t).plane track) (planes_of basis cost starts goal t).exit place (Some r)
bound_at_exit basis t cost starts goal track place exit r e low = subst (λ (e : ℕ). IsLowerBound ((planes_of basis cost starts goal t).plane track) e place (Some r)) e low
