-- Private: what a search of a plane finds, and what that means for the best path so far.
use Rattle.std.specs.Prelude.{◌≡◌, ◌≢◌, ℕ, ◌<◌, ◌≤◌, List, map}
use Rattle.std.specs.Ordering.{nat_cmp}
use Rattle.std.specs.Cmp.Lexicographic.{slice_cmp}
use Rattle.std.specs.List.Sorted.{IsNonDecreasing}
use Rattle.std.specs.declared.cmp.Ordering.TheVariants.{Less}
use Rattle.plane_search.specs.Prelude.{IsPath, cost_of, path_cmp, IsLeastPath, Path}
use Rattle.plane_search.specs.Planes.{Family, IsKnown, HoldsNothingLess}
use Rattle.plane_search.specs.Starts.{AreStarts, places_of}
use Rattle.plane_search.specs.declared.planes.Start.{Start}

-- no path is in the track's plane
abbrev pub HoldsNone : Family → ℕ → Type 0
HoldsNone f track = (path : List ℕ) → IsPath (f.plane track) (f.entries track) f.exit path → ⊥

-- no path in the track's plane that costs more than this is less than these nodes
abbrev pub HoldsNothingBeyond : Family → ℕ → List ℕ → ℕ → Type 0
HoldsNothingBeyond f track nodes most = (path : List ℕ)
    → IsPath (f.plane track) (f.entries track) f.exit path
    → most < cost_of (f.plane track) path
    → path_cmp f.whole (map (f.number track) path) nodes ≢ Less

-- The path costs at most this, and if just this, the nodes don't come before its own.
pub record IsNoLater (cost : ℕ) (nodes : List ℕ) (path : Path) : Type 0 where
  pub cheap : path.cost ≤ cost
  pub order : path.cost ≡ cost → slice_cmp nat_cmp nodes path.nodes.items ≢ Less

-- The new path is no greater than the old one and than each path in the track's plane, and as good
-- as the old one in the other planes.
pub record Improves (f : Family) (track cost : ℕ) (nodes : List ℕ) (path new : Path) : Type 0 where
  pub known : IsKnown f new
  pub later : IsNoLater cost nodes new
  pub here : HoldsNothingLess f track new.nodes.items
  pub still : (other : ℕ) → HoldsNothingLess f other path.nodes.items
      → HoldsNothingLess f other new.nodes.items

-- ---- one plane

-- the starts of the track's plane, in rising order
pub record AreListed (f : Family) (track most : ℕ) (starts : List Start) : Type 0 where
  pub are : AreStarts f track most starts
  pub rising : IsNonDecreasing (places_of starts)

-- the least path in the track's plane from these starts, by places, with its cost
pub record IsLeastOn (f : Family) (track : ℕ) (starts : List ℕ) (path : Path) : Type 0 where
  pub least : IsLeastPath (f.plane track) starts f.exit path.nodes.items
  pub cost : path.cost ≡ cost_of (f.plane track) path.nodes.items

-- each path in the track's plane from these starts costs more than the limit
abbrev pub HasNoneWithin : Family → ℕ → List ℕ → ℕ → Type 0
HasNoneWithin f track starts most = (path : List ℕ) → IsPath (f.plane track) starts f.exit path
    → most < cost_of (f.plane track) path

-- a path of the whole graph, with its cost, than which none in the track's plane from these starts
-- is less
pub record IsLeastIn (f : Family) (track : ℕ) (starts : List ℕ) (path : Path) : Type 0 where
  pub known : IsKnown f path
  pub least : (other : List ℕ) → IsPath (f.plane track) starts f.exit other
      → path_cmp f.whole (map (f.number track) other) path.nodes.items ≢ Less
