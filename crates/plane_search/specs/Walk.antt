-- Private: a walk through a graph along ways that may have exactly a given cost.
use Rattle.std.proofs.Common.{◌≡◌, ◌≢◌, ℕ, ◌+◌, ◌-◌, ◌<◌, ◌≤◌, ◌⊎◌, List, [], ◌∷◌, Some, length, get_or, map}
use Rattle.std.specs.List.{sum_by, All, Contains}
use Rattle.std.specs.Ordering.{nat_cmp}
use Rattle.std.specs.Cmp.Lexicographic.{slice_cmp}
use Rattle.std.specs.declared.cmp.Ordering.TheVariants.{Less}
use Rattle.std.specs.List.Sorted.{IsNonDecreasing}
use Rattle.plane_search.specs.Prelude.{Graph, AreNodes, Leads, IsPath, cost_of, IsLowerBound}
use Rattle.plane_search.specs.Planes.{Family}
use Rattle.plane_search.specs.Starts.{places_of}
use Rattle.plane_search.specs.declared.planes.Start.{Start}
use Rattle.plane_search.specs.declared.walk.Stop.{Stop}
use Rattle.plane_search.specs.declared.walk.Step.{Step}

-- ---- marks

-- the costs at which the places were entered, from the numbers in their cells
abbrev pub costs_of : {C : Type 0} → (C → ℕ) → ℕ → List C → List ℕ
costs_of number top cells = map (λ cell. top - number cell) cells

-- No cell is greater than the greatest one of the walk, which leaves room for the costs that are
-- marked.
pub record AreCells {C : Type 0} (span last : ℕ) (number : C → ℕ) (top : ℕ) (cells : List C) : Type 0 where
  pub room : span ≤ top
  pub few : top ≤ last
  pub low : All (λ cell. number cell ≤ top) cells

-- ---- ways

-- Each way from the node, which is reached at this cost, to the goal makes the whole at least as
-- dear as this.
abbrev pub CostsAtLeast : Graph → ℕ → ℕ → ℕ → ℕ → Type 0
CostsAtLeast g goal best node cost = (rest : List ℕ) → Leads g goal node rest
    → best ≤ cost + sum_by g.cost rest

-- Each way from the node, which is reached at this cost, to the goal makes the whole dearer than
-- this.
abbrev pub CostsMore : Graph → ℕ → ℕ → ℕ → ℕ → Type 0
CostsMore g goal best node cost = (rest : List ℕ) → Leads g goal node rest
    → best < cost + sum_by g.cost rest

-- No path over a place that was reached costs less than the best, at the cost at which it was.
pub record ArePruned (g : Graph) (span places goal best : ℕ) (reached : List ℕ) : Type 0 where
  pub room : places ≤ length reached
  pub least : (node : ℕ) → node < places → get_or reached node 0 < span
      → CostsAtLeast g goal best node (get_or reached node 0)

-- The node was entered at this cost or less, or is too dear.
abbrev pub IsUnfit : Graph → ℕ → ℕ → List ℕ → ℕ → ℕ → Type 0
IsUnfit g goal best entered node cost = (get_or entered node 0 ≤ cost)
    ⊎ CostsMore g goal best node cost

-- The node may be entered at this cost, which is its predecessor's and its own.
pub record IsFit (g : Graph) (best : ℕ) (entered : List ℕ) (node before cost : ℕ) : Type 0 where
  pub sum : cost ≡ before + g.cost node
  pub cheap : cost ≤ best
  pub fresh : cost < get_or entered node 0

-- A walk can go over the place after a way of this cost: it is a place of the plane, each of which
-- has a mark, and the way is not dearer than the best path.
pub record CanGoOver (places best : ℕ) (entered : List ℕ) (place before : ℕ) : Type 0 where
  pub within : place < places
  pub room : places ≤ length entered
  pub cheap : before ≤ best

-- The ends of the stop's edges from number `from` up to `to` are unfit.
abbrev pub AreUnfit : Graph → ℕ → ℕ → List ℕ → Stop → ℕ → ℕ → Type 0
AreUnfit g goal best entered stop from to = (k : ℕ) → from ≤ k → k < to
    → IsUnfit g goal best entered (get_or (g.ends stop.place) k 0) (stop.cost + g.cost (get_or (g.ends stop.place) k 0))

-- The stop is followed by the first end, from its next edge on, that is fit. Lesser ends are ends
-- of earlier edges.
pub record IsNext (g : Graph) (goal best : ℕ) (entered : List ℕ) (stop : Stop) (step : Step) : Type 0 where
  pub within : step.edge < length (g.ends stop.place)
  pub end : get_or (g.ends stop.place) step.edge 0 ≡ step.place
  pub fit : IsFit g best entered step.place stop.cost step.cost
  pub unfit : AreUnfit g goal best entered stop stop.next_edge step.edge
  pub order : (k : ℕ) → k < length (g.ends stop.place) → get_or (g.ends stop.place) k 0 < step.place
      → k < step.edge

-- a stop before its first edge
abbrev pub stop_at : ℕ → ℕ → Stop
stop_at place cost = record { place = place; cost = cost; next_edge = 0 }

-- the stop after it has made a step
abbrev pub after_step : Stop → Step → Stop
after_step stop step = record { place = stop.place; cost = stop.cost; next_edge = step.edge + 1 }

-- ---- the stops of a walk, the last one first

-- The node is a stop that was reached at this cost.
abbrev pub IsStop : List Stop → ℕ → ℕ → Type 0
IsStop [] node cost = ⊥
IsStop (stop ∷ below) node cost = ((stop.place ≡ node) × (stop.cost ≡ cost))
    ⊎ IsStop below node cost

-- A place that was entered is a stop, or too dear at the cost at which it was entered; and no path
-- over it costs less than the best.
pub record IsWalking (g : Graph) (span goal best : ℕ) (entered : List ℕ) (stops : List Stop) : Type 0 where
  pub room : g.count ≤ length entered
  pub least : (node : ℕ) → node < g.count → get_or entered node 0 < span
      → CostsAtLeast g goal best node (get_or entered node 0)
  pub done : (node : ℕ) → node < g.count → get_or entered node 0 < span
      → IsStop stops node (get_or entered node 0)
      ⊎ CostsMore g goal best node (get_or entered node 0)

-- Walks may begin: no place is a stop.
abbrev pub IsBetween : Graph → ℕ → ℕ → ℕ → List ℕ → Type 0
IsBetween g span goal best entered = IsWalking g span goal best entered []

-- The path is the least of those from the start that have the best cost.
pub record IsLeastFrom (g : Graph) (goal best start : ℕ) (path : List ℕ) : Type 0 where
  pub is_path : IsPath g (start ∷ []) goal path
  pub cost : cost_of g path ≡ best
  pub least : (other : List ℕ) → IsPath g (start ∷ []) goal other → cost_of g other ≡ best
      → slice_cmp nat_cmp other path ≢ Less

-- the places of the stops
abbrev pub places_in : List Stop → List ℕ
places_in stops = map (λ (stop : Stop). stop.place) stops

-- No path from the starts costs less than this.
abbrev pub AreNoCheaper : Graph → ℕ → ℕ → List ℕ → Type 0
AreNoCheaper g goal best starts = (start : ℕ) → Contains starts start
    → CostsAtLeast g goal best start 0

-- Each start has a lower bound of the costs of the paths from it.
abbrev pub AreBoundedStarts : Graph → ℕ → List Start → Type 0
AreBoundedStarts g goal starts = (start : Start) → Contains starts start
    → IsLowerBound g goal start.place (Some start.ahead)

-- Each start is a node with a lower bound, and their places are in rising order.
pub record AreOrderedStarts (g : Graph) (goal : ℕ) (starts : List Start) : Type 0 where
  pub within : AreNodes g (places_of starts)
  pub bounded : AreBoundedStarts g goal starts
  pub rising : IsNonDecreasing (places_of starts)

-- The least path from the starts in the track's plane may cost this: no path costs less, also over
-- the places that were reached. It is a cost that is marked.
pub record CanBeLeast (f : Family) (track : ℕ) (starts : List ℕ) (span best : ℕ) (reached : List ℕ) : Type 0 where
  pub some : 1 ≤ best
  pub few : best < span
  pub cheap : AreNoCheaper (f.plane track) f.exit best starts
  pub pruned : ArePruned (f.plane track) span f.places f.exit best reached
