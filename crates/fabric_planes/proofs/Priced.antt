-- Tables of prices while they are set.
use Rattle.fabric_planes.proofs.Prelude.{◌≡◌, ℕ, ◌+◌, ◌*◌, ◌<◌, ◌≤◌, ◌⊎◌, List, length, set, refl, sym, ap, ◌∙◌, inl, inr, arith, slice_index, cases_eq, get_or-set_same, get_or-set_other, length-set, Node, Basis, IsBasis, graph_of, IsWireOf, place_of, place_count, PriceAt, ArePrices, AreByPlace, AreByPlaceBut, ComesFrom, IsSpot, IsRepriced, IsWireOn, IsWireAt}
use Rattle.fabric_planes.proofs.Consecutive.{wires_order}
use Rattle.fabric_planes.proofs.Found.{place_low}
use Rattle.fabric_planes.proofs.Strips.{track_low}
use Rattle.fabric_planes.proofs.Untold.{within}

-- ---- an index tells the track and the place

same_track : (places a b p q : ℕ) → p < places → q < places → a * places + p ≡ b * places + q → a ≡ b
same_track places a b p q lp lq e = grind arith

same_place : (places a b p q : ℕ) → p < places → q < places → a * places + p ≡ b * places + q → p ≡ q
same_place places a b p q lp lq e = grind (arith, same_track places a b p q lp lq e)

-- the prices of all wires are those of these costs, except for some nodes
pub record ArePricesBut (basis : Basis) (cost : ℕ → ℕ) (but : ℕ → Type 0) (prices : List ℕ) : Type 0 where
  pub long : length prices ≡ basis.arch.tracks * place_count basis
  pub told : (place number : ℕ) → IsWireOf basis place number → (but number → ⊥) → (slice_index prices (((graph_of basis).node number).n * place_count basis + place) ≡ 255 → ⊥)
      → slice_index prices (((graph_of basis).node number).n * place_count basis + place) ≡ cost number
  pub others : (track place : ℕ) → track < basis.arch.tracks → place < place_count basis → ((number : ℕ) → IsWireOf basis place number → ((graph_of basis).node number).n ≡ track → ⊥) → slice_index prices (track * place_count basis + place) ≡ 255

-- the node is one of those in the list from this index on
abbrev pub IsLeft : List ℕ → ℕ → ℕ → Type 0
IsLeft nodes from number = (k : ℕ) × (from ≤ k) × (k < length nodes) × (slice_index nodes k ≡ number)

pub next_left : (nodes : List ℕ) (from number node : ℕ) → slice_index nodes from ≡ node → IsLeft nodes from number → IsLeft nodes (from + 1) number ⊎ (number ≡ node)
next_left nodes from number node at h2 = grind arith

pub none_left : (nodes : List ℕ) (from number : ℕ) → length nodes ≤ from → IsLeft nodes from number → ⊥
none_left nodes from number past (k, l, b, e) = omega (arith, past, l, b)

module _ {basis : Basis} (is : IsBasis basis) where
  abbrev node : ℕ → Node
  node = (graph_of basis).node

  abbrev places : ℕ
  places = place_count basis

  same_wire : (i j : ℕ) → IsWireAt basis i → IsWireAt basis j → (node i).n ≡ (node j).n → place_of basis (node i) ≡ place_of basis (node j) → i ≡ j
  same_wire i j wi wj n p = grind (arith, wires_order)

  place_below : (number : ℕ) → IsWireAt basis number → place_of basis (node number) < places
  place_below number w = place_low is (place_of basis (node number)) number (record { wire = w; is_at = refl })

  -- the index of a wire's price
  pub spot_low : (number : ℕ) → IsWireAt basis number → (node number).n * places + place_of basis (node number) < basis.arch.tracks * places
  spot_low number w = search (within, track_low, place_below, arith)

  -- no other wire's price is there
  spot_apart : (number : ℕ) (spot : PriceAt) (k place : ℕ) → IsSpot basis number spot → IsWireOf basis place k → (k ≡ number → ⊥) → (node k).n * places + place ≡ spot.by_track → ⊥
  spot_apart number spot k place s w other e =
      let lk = place_low is place k w in
      let ln = place_below number s.wire in
      let f = e ∙ s.is in
      other (same_wire k number w.wire s.wire
      (same_track places (node k).n (node number).n place (place_of basis (node number)) lk ln f)
      (w.is_at ∙ same_place places (node k).n (node number).n place (place_of basis (node number)) lk ln f))

  -- the nodes that are left after one more, if it is no wire
  split_off : (number : ℕ) (before after : ℕ → Type 0) → ((k : ℕ) → before k → after k ⊎ (k ≡ number)) → (k : ℕ) → (k ≡ number → ⊥) → (after k → ⊥) → before k → ⊥
  split_off number before after split k other not b = grind arith

  pub repriced : (cost : ℕ → ℕ) (number : ℕ) (before after : ℕ → Type 0) (old new old_by new_by : List ℕ) → ((k : ℕ) → before k → after k ⊎ (k ≡ number))
      → ArePricesBut basis cost before old → IsRepriced basis (cost number) number old new old_by new_by → ArePricesBut basis cost after new
  repriced cost number before after old new old_by new_by split are (inr u) = grind arith
  repriced cost number before after old new old_by new_by split are (inl s) =
      let spot = s.spot.by_track in
      let at : (i : ℕ) → slice_index new i ≡ slice_index (set old spot s.price) i = λ i. ap (λ (xs : List ℕ). slice_index xs i) s.set in
      record {
        long = ap (λ (xs : List ℕ). length xs) s.set ∙ (length-set old spot s.price ∙ are.long);
        told = λ place k w not some. elim (cases_eq k number) [
          | inl same ↦
              let here : (node k).n * places + place ≡ spot =
              ap (λ (p : ℕ). (node k).n * places + p) (sym w.is_at) ∙ (ap (λ (j : ℕ). (node j).n * places + place_of basis (node j)) same ∙ sym s.is_spot.is) in
              let e : slice_index new ((node k).n * places + place) ≡ s.price =
              at ((node k).n * places + place) ∙ (ap (slice_index (set old spot s.price)) here ∙ get_or-set_same old spot s.price 0 (omega (arith, s.is_spot.low, are.long))) in
              e ∙ (s.is_price.told (λ q. some (e ∙ q)) ∙ ap cost (sym same))
          | inr other ↦
              let e : slice_index new ((node k).n * places + place) ≡ slice_index old ((node k).n * places + place) =
              at ((node k).n * places + place) ∙ get_or-set_other old spot ((node k).n * places + place) s.price 0 (spot_apart number s.spot k place s.is_spot w other) in
              e ∙ are.told place k w (split_off number before after split k other not) (λ q. some (e ∙ q))
        ];
        others = λ track place t p none.
            let apart : track * places + place ≡ spot → ⊥ = λ q.
            let low = place_below number s.is_spot.wire in
            let f = q ∙ s.is_spot.is in
            none number (record { wire = s.is_spot.wire; is_at = sym (same_place places track (node number).n place (place_of basis (node number)) p low f) })
            (sym (same_track places track (node number).n place (place_of basis (node number)) p low f)) in
            at (track * places + place) ∙ (get_or-set_other old spot (track * places + place) s.price 0 apart ∙ are.others track place t p none);
      }

  -- ---- place by place

  abbrev tracks : ℕ
  tracks = basis.arch.tracks

  -- the index of a wire's price
  pub by_place_low : (number : ℕ) → IsWireAt basis number → place_of basis (node number) * tracks + (node number).n < places * tracks
  by_place_low number w = within places tracks (place_of basis (node number)) (node number).n (place_below number w) (track_low is number w)

  -- no other wire's price is there
  by_place_apart : (number : ℕ) (spot : PriceAt) (k place : ℕ) → IsSpot basis number spot → IsWireOf basis place k → (k ≡ number → ⊥) → place * tracks + (node k).n ≡ spot.by_place → ⊥
  by_place_apart number spot k place s w other e =
      let lk = track_low is k w.wire in
      let ln = track_low is number s.wire in
      let f = e ∙ s.is_by_place in
      other (same_wire k number w.wire s.wire
      (same_place tracks place (place_of basis (node number)) (node k).n (node number).n lk ln f)
      (w.is_at ∙ same_track tracks place (place_of basis (node number)) (node k).n (node number).n lk ln f))

  pub repriced_by_place : (cost : ℕ → ℕ) (number : ℕ) (before after : ℕ → Type 0) (old new old_by new_by : List ℕ) → ((k : ℕ) → before k → after k ⊎ (k ≡ number))
      → AreByPlaceBut basis cost before old_by → IsRepriced basis (cost number) number old new old_by new_by → AreByPlaceBut basis cost after new_by
  repriced_by_place cost number before after old new old_by new_by split are (inr u) = grind arith
  repriced_by_place cost number before after old new old_by new_by split are (inl s) =
      let spot = s.spot.by_place in
      record {
        long = ap (λ (xs : List ℕ). length xs) s.set_by_place ∙ (length-set old_by spot s.price ∙ are.long);
        low = λ place k w not. elim (cases_eq k number) [
          | inl same ↦
              let here : place * tracks + (node k).n ≡ spot =
              ap (λ (p : ℕ). p * tracks + (node k).n) (sym w.is_at) ∙ (ap (λ (j : ℕ). place_of basis (node j) * tracks + (node j).n) same ∙ sym s.is_spot.is_by_place) in
              let e : slice_index new_by (place * tracks + (node k).n) ≡ s.price =
              ap (λ (xs : List ℕ). slice_index xs (place * tracks + (node k).n)) s.set_by_place
              ∙ (ap (slice_index (set old_by spot s.price)) here ∙ get_or-set_same old_by spot s.price 0 (omega (arith, s.is_spot.low_by_place, are.long))) in
              omega (arith, e, s.is_price.low, ap cost same)
          | inr other ↦
              let e : slice_index new_by (place * tracks + (node k).n) ≡ slice_index old_by (place * tracks + (node k).n) =
              ap (λ (xs : List ℕ). slice_index xs (place * tracks + (node k).n)) s.set_by_place
              ∙ get_or-set_other old_by spot (place * tracks + (node k).n) s.price 0 (by_place_apart number s.spot k place s.is_spot w other) in
              omega (arith, e, are.low place k w (split_off number before after split k other not))
        ];
      }

-- ---- from and to tables of all prices

pub all_but : (basis : Basis) (cost : ℕ → ℕ) (but : ℕ → Type 0) (prices : List ℕ) → ArePrices basis cost prices → ArePricesBut basis cost but prices
all_but basis cost but prices are = grind arith

pub all_told : (basis : Basis) (cost : ℕ → ℕ) (but : ℕ → Type 0) (prices : List ℕ) → ((k : ℕ) → but k → ⊥) → ArePricesBut basis cost but prices → ArePrices basis cost prices
all_told basis cost but prices none are = grind arith

-- ---- the same place by place

pub all_by_place : (basis : Basis) (cost : ℕ → ℕ) (but : ℕ → Type 0) (prices : List ℕ) → ((number : ℕ) → number < (graph_of basis).count → but number → ⊥) → AreByPlaceBut basis cost but prices → AreByPlace basis cost prices
all_by_place basis cost but prices none are = grind arith

-- ---- the wires of one place after another

module _ {basis : Basis} (is : IsBasis basis) (cost : ℕ → ℕ) where
  abbrev of : ℕ → Node
  of = (graph_of basis).node

  -- at first no price is set
  pub begun_by_place : (prices : List ℕ) → length prices ≡ place_count basis * basis.arch.tracks → AreByPlaceBut basis cost (ComesFrom basis 0 0) prices
  begun_by_place prices long = grind arith

  -- the wire of a track is done
  pub next_wire : (place track number : ℕ) → IsWireOn basis place track number → (k : ℕ) → ComesFrom basis place track k → ComesFrom basis place (track + 1) k ⊎ (k ≡ number)
  next_wire place track number on k h2 = grind (arith, same_wire)

  -- all wires of a place are done
  pub next_place : (place tracks : ℕ) (prices : List ℕ) → basis.arch.tracks ≤ tracks → AreByPlaceBut basis cost (ComesFrom basis place tracks) prices → AreByPlaceBut basis cost (ComesFrom basis (place + 1) 0) prices
  next_place place tracks prices few are = grind (arith, track_low)

  -- a place has no wire
  pub skip_place : (place : ℕ) (prices : List ℕ) → ((number : ℕ) → IsWireOf basis place number → ⊥) → AreByPlaceBut basis cost (ComesFrom basis place 0) prices → AreByPlaceBut basis cost (ComesFrom basis (place + 1) 0) prices
  skip_place place prices none are = grind arith

  -- no wire comes after the last place
  pub none_after : (place : ℕ) → place_count basis ≤ place → (number : ℕ) → ComesFrom basis place 0 number → ⊥
  none_after place past number h2 = grind (arith, place_below)
