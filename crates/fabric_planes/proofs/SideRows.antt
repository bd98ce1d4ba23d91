-- Bounds of the ways from the wires that an output pin meets.
use Rattle.fabric_planes.proofs.Prelude.{◌≡◌, ℕ, ◌+◌, ◌-◌, ◌*◌, ◌<◌, ◌≤◌, List, [], ◌∷◌, length, take, drop, min, refl, sym, ◌∙◌, arith, slice_index, get_or-take, get_or-drop, length-drop, length-take-le, mul-le-mul_left, Node, Basis, IsBasis, graph_of, AreAheads, AreFars, AreLeast, AreSides, HaveBounds, IsWireBound, IsWireOf, Terminals, place_of, planes_of, IsNetSearch, IsWireAt}
use Rattle.fabric_planes.proofs.Bounded.{far_low, side_low}
use Rattle.fabric_planes.proofs.Strips.{track_low}
use Rattle.fabric_planes.proofs.WireBounds.{By, fars_near, sharp_low, wire_bound}

-- a row of a table
pub part_at : (xs : List ℕ) (a b n i : ℕ) → b ≡ a + n → i < n → slice_index (take (b - a) (drop a xs)) i ≡ slice_index xs (a + i)
part_at xs a b n i e l = get_or-take (b - a) (drop a xs) i 0 (omega (arith, e, l)) ∙ get_or-drop a xs i 0

-- how long it is
pub part_long : (xs : List ℕ) (a b n m : ℕ) → b ≡ a + n → n ≡ m → b ≤ length xs → length (take (b - a) (drop a xs)) ≡ m
part_long xs a b n m e f fits = length-take-le (b - a) (drop a xs) (omega (arith, length-drop a xs, fits)) ∙ omega (arith, e, f)

pub row_within : (place count n : ℕ) → place < count → (place + 1) * n ≤ count * n
row_within place count n l = let h : n * (place + 1) ≤ n * count = mul-le-mul_left n (omega (arith, l)) in omega (arith, h)

module _ {basis : Basis} (is : IsBasis basis) (t : Terminals) (cost : ℕ → ℕ) (starts : List ℕ) (goal : ℕ) (search : IsNetSearch basis cost starts goal t) (pins lasts : List ℕ) (bounds : HaveBounds basis cost t.sink pins lasts) where
  abbrev node : ℕ → Node
  node = (graph_of basis).node

  -- a bound by sides, with what comes before
  pub met_bound : (more wire price apart ahead r : ℕ) → IsWireAt basis wire → price ≤ cost wire → apart ≡ 0 → r ≤ ahead + (price + (apart + more)) → ((sum : ℕ) → By basis t.sink pins lasts wire sum → ahead ≤ sum)
      → IsWireBound basis cost (planes_of basis cost starts goal t) more wire r
  met_bound more wire price apart ahead r w cheap none le low way leads =
      let bound = wire_bound is t cost starts goal search pins lasts bounds (node wire).n (place_of basis (node wire)) wire ahead (track_low is wire w) (record { wire = w; is_at = refl }) refl low way leads in
      omega (arith, bound, cheap, none, le)

  module _ (more wire price apart r : ℕ) (w : IsWireAt basis wire) (cheap : price ≤ cost wire) (none : apart ≡ 0) (sides : List ℕ) (are : AreSides basis t.sink sides) (place : ℕ) (at : place ≡ place_of basis (node wire)) where
    of : IsWireOf basis place wire
    of = record { wire = w; is_at = sym at }

    -- the wire is at a side of the sink's block or pad
    pub near_met : (end : ℕ) (least : List ℕ) → AreLeast basis.arch.tracks lasts least → end < 4 → slice_index sides end ≡ place
        → r ≤ min (slice_index pins end) (slice_index least (node wire).n) + 1 + (price + (apart + more)) → IsWireBound basis cost (planes_of basis cost starts goal t) more wire r
    near_met end least low few here le =
        met_bound more wire price apart (min (slice_index pins end) (slice_index least (node wire).n) + 1) r w cheap none le
        (λ sum by. side_low basis t.sink pins lasts least sides (node wire).n end place wire sum (min (slice_index pins end) (slice_index least (node wire).n) + 1) are low (track_low is wire w) few here of refl by refl)

    -- the wire is at none
    pub far_met : (top bottom right left : List ℕ) → AreFars basis t.sink 0 top → AreFars basis t.sink 1 bottom → AreFars basis t.sink 2 right → AreFars basis t.sink 3 left
        → ((side : ℕ) → side < 4 → slice_index sides side ≡ place → ⊥)
        → ((side : ℕ) → side < 4 → r ≤ slice_index lasts (side * basis.arch.tracks + (node wire).n) + slice_index (slice_index top place ∷ slice_index bottom place ∷ slice_index right place ∷ slice_index left place ∷ []) side + (price + (apart + more)))
        → IsWireBound basis cost (planes_of basis cost starts goal t) more wire r
    far_met top bottom right left a b c d aside le =
        met_bound more wire price apart (r - (price + (apart + more))) r w cheap none (omega arith)
        (λ sum by. sharp_low basis t.sink pins lasts (λ side. slice_index (slice_index top place ∷ slice_index bottom place ∷ slice_index right place ∷ slice_index left place ∷ []) side) (node wire).n wire sum (r - (price + (apart + more)))
        (λ side own. aside side own.few (are.all side place wire of own))
        (fars_near basis t.sink top bottom right left place wire a b c d of)
        (λ side few. omega (arith, le side few)) refl by)

  -- each way costs more than the limit
  pub far_dear : (more wire place most limit : ℕ) (aheads least : List ℕ) → IsWireAt basis wire → place ≡ place_of basis (node wire) → AreAheads basis t.sink aheads → AreLeast basis.arch.tracks lasts least → (slice_index aheads place ≡ 0 → ⊥)
      → limit ≤ slice_index least (node wire).n → most < more + 1 + slice_index aheads place + limit → IsWireBound basis cost (planes_of basis cost starts goal t) more wire (most + 1)
  far_dear more wire place most limit aheads least w at are low some few dear =
      met_bound more wire 1 0 (slice_index aheads place + slice_index least (node wire).n) (most + 1) w (search.costs.some wire w.within) refl (omega (arith, few, dear))
      (λ sum by. far_low basis t.sink pins lasts least aheads (node wire).n place wire sum are low (track_low is wire w) some (record { wire = w; is_at = sym at }) refl by)
