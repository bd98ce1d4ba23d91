-- Graphs that consist of planes, one for each track.
use Rattle.std.specs.Prelude.{◌≡◌, ◌≢◌, ℕ, ◌^◌, ◌<◌, ◌≤◌, Bool, true, Option, Some, List, All, Contains, map}
use Rattle.std.specs.Ordering.{nat_cmp}
use Rattle.std.specs.Cmp.Lexicographic.{slice_cmp}
use Rattle.std.specs.declared.cmp.Ordering.TheVariants.{Less}
use Rattle.plane_search.specs.Prelude.{Graph, AreNodes, IsLawful, Leads, IsPath, cost_of, path_cmp, Path}

-- A graph with some starts and a goal, and a plane of it for each track: the graph of the places of
-- the track, and for each place the number of its node in the whole graph.
pub record Family : Type 0 where
  pub whole : Graph
  pub starts : List ℕ
  pub goal : ℕ
  pub tracks : ℕ
  pub track_of : ℕ → Option ℕ
  pub places : ℕ
  pub there : ℕ → ℕ → Bool
  pub plane : ℕ → Graph
  pub number : ℕ → ℕ → ℕ
  pub entries : ℕ → List ℕ
  pub exit : ℕ

-- The track has this place.
pub record IsPlace (f : Family) (track place : ℕ) : Type 0 where
  pub within : place < f.places
  pub there : f.there track place ≡ true

-- If the node is a wire, it is one of the track.
abbrev pub IsOn : Family → ℕ → ℕ → Type 0
IsOn f track node = (other : ℕ) → f.track_of node ≡ Some other → other ≡ track

-- The plane of a track: its places are nodes of the whole graph, in the same order, with the same
-- costs and the same edges, as far as ways to the goal lead over them.
pub record IsPlane (f : Family) (track : ℕ) : Type 0 where
  pub lawful : IsLawful (f.plane track)
  pub count : (f.plane track).count ≡ f.places
  pub exit_there : IsPlace f track f.exit
  pub exit_is : f.number track f.exit ≡ f.goal
  pub order : (place other : ℕ) → IsPlace f track place → IsPlace f track other → place < other
      → f.number track place < f.number track other
  pub within : (place : ℕ) → IsPlace f track place → f.number track place < f.whole.count
  pub cost : (place : ℕ) → IsPlace f track place
      → (f.plane track).cost place ≡ f.whole.cost (f.number track place)
  pub ends_there : (place end : ℕ) → IsPlace f track place
      → Contains ((f.plane track).ends place) end → IsPlace f track end
  pub sound : (place end : ℕ) → IsPlace f track place → Contains ((f.plane track).ends place) end
      → Contains (f.whole.ends (f.number track place)) (f.number track end)
  pub complete : (place node : ℕ) (rest : List ℕ) → IsPlace f track place
      → Contains (f.whole.ends (f.number track place)) node → IsOn f track node
      → Leads f.whole f.goal node rest
      → (end : ℕ) × Contains ((f.plane track).ends place) end × (f.number track end ≡ node)
  pub entries_there : (entry : ℕ) → Contains (f.entries track) entry → IsPlace f track entry
  pub entries_sound : (entry : ℕ) → Contains (f.entries track) entry
      → Contains f.starts (f.number track entry)
  pub entries_complete : (node : ℕ) (rest : List ℕ) → Contains f.starts node → IsOn f track node
      → Leads f.whole f.goal node rest
      → (entry : ℕ) × Contains (f.entries track) entry × (f.number track entry ≡ node)

-- The whole graph consists of its planes: from a wire each way to the goal stays on its track.
pub record IsFamily (f : Family) : Type 0 where
  pub lawful : IsLawful f.whole
  pub starts : AreNodes f.whole f.starts
  pub goal : f.goal < f.whole.count
  pub some : 1 ≤ f.tracks
  pub few : f.places ≤ 2 ^ 22
  pub wires : (node track : ℕ) → node < f.whole.count → f.track_of node ≡ Some track
      → track < f.tracks
  pub stays : (node track : ℕ) (rest : List ℕ) → node < f.whole.count → f.track_of node ≡ Some track
      → Leads f.whole f.goal node rest → All (IsOn f track) rest
  pub planes : (track : ℕ) → track < f.tracks → IsPlane f track

-- The path of the whole graph is a path of a plane.
pub record IsInPlane (f : Family) (path : List ℕ) : Type 0 where
  pub track : ℕ
  pub within : track < f.tracks
  pub places : List ℕ
  pub is_path : IsPath (f.plane track) (f.entries track) f.exit places
  pub is : map (f.number track) places ≡ path

-- Each path in the track's plane costs at least this.
abbrev pub IsPlaneBound : Family → ℕ → ℕ → Type 0
IsPlaneBound f track bound = (path : List ℕ) → IsPath (f.plane track) (f.entries track) f.exit path
    → bound ≤ cost_of (f.plane track) path

-- Each path in the track's plane whose nodes come before the known ones costs at least this.
abbrev pub IsRivalBound : Family → ℕ → List ℕ → ℕ → Type 0
IsRivalBound f track known bound = (path : List ℕ)
    → IsPath (f.plane track) (f.entries track) f.exit path
    → slice_cmp nat_cmp (map (f.number track) path) known ≡ Less
    → bound ≤ cost_of (f.plane track) path

-- ---- results

-- A path of the whole graph, with its cost.
pub record IsKnown (f : Family) (path : Path) : Type 0 where
  pub is_path : IsPath f.whole f.starts f.goal path.nodes.items
  pub cost : path.cost ≡ cost_of f.whole path.nodes.items

-- No path in the track's plane is less than these nodes.
abbrev pub HoldsNothingLess : Family → ℕ → List ℕ → Type 0
HoldsNothingLess f track nodes = (path : List ℕ)
    → IsPath (f.plane track) (f.entries track) f.exit path
    → path_cmp f.whole (map (f.number track) path) nodes ≢ Less

-- A path of the whole graph, with its cost, than which none in the track's plane is less.
pub record IsLeastOfTrack (f : Family) (track : ℕ) (path : Path) : Type 0 where
  pub within : track < f.tracks
  pub known : IsKnown f path
  pub least : HoldsNothingLess f track path.nodes.items
