-- Graphs whose nodes are labeled with places, track by track.
use Rattle.std.specs.Prelude.{◌≡◌, ℕ, ◌^◌, ◌<◌, ◌≤◌, Bool, true, Option, Some, List, [], All, Contains, map, filter, ◌&&◌, ◌==◌, nat_lt, if◌then◌else◌}
use Rattle.std.specs.List.{position_or_len, range_with_len}
use Rattle.fabric_planes.specs.Prelude.{Graph, AreNodes, IsLawful, Leads, Family}

-- A graph with some starts and a goal; for each track the nodes that its plane shows, and for each
-- node its place in each plane that shows it.
pub record Labels : Type 0 where
  pub whole : Graph
  pub starts : List ℕ
  pub goal : ℕ
  pub tracks : ℕ
  pub track_of : ℕ → Option ℕ
  pub places : ℕ
  pub is_shown : ℕ → ℕ → Bool
  pub place : ℕ → ℕ

-- The node that is shown at a place; the number of nodes if there is none.
abbrev pub node_at : Labels → ℕ → ℕ → ℕ
node_at l track place = position_or_len (λ node. l.is_shown track node && (l.place node == place)) (range_with_len 0 l.whole.count)

abbrev pub is_there : Labels → ℕ → ℕ → Bool
is_there l track place = nat_lt (node_at l track place) l.whole.count

-- the places of those of the nodes that are shown
abbrev pub places_of : Labels → ℕ → List ℕ → List ℕ
places_of l track nodes = map l.place (filter (l.is_shown track) nodes)

-- the plane of a track: of the edges between the nodes that are shown
abbrev pub plane_of : Labels → ℕ → Graph
plane_of l track = record {
  count = l.places;
  ends = λ place. if is_there l track place then places_of l track (l.whole.ends (node_at l track place)) else [];
  cost = λ place. if is_there l track place then l.whole.cost (node_at l track place) else 1;
}

-- the planes of all tracks
unfoldable pub family_of : Labels → Family
family_of l = record {
  whole = l.whole;
  starts = l.starts;
  goal = l.goal;
  tracks = l.tracks;
  track_of = l.track_of;
  places = l.places;
  there = is_there l;
  plane = plane_of l;
  number = node_at l;
  entries = λ track. places_of l track l.starts;
  exit = l.place l.goal;
}

-- If the node is a wire, it is one of the track.
abbrev pub IsOnTrack : Labels → ℕ → ℕ → Type 0
IsOnTrack l track node = (other : ℕ) → l.track_of node ≡ Some other → other ≡ track

-- Each plane shows the goal, and what its track has of the ways to the goal from the starts and
-- from the nodes that it shows. Its places are in the order of the nodes.
pub record AreLabels (l : Labels) : Type 0 where
  pub lawful : IsLawful l.whole
  pub starts : AreNodes l.whole l.starts
  pub goal : l.goal < l.whole.count
  pub some : 1 ≤ l.tracks
  pub few : l.places ≤ 2 ^ 22
  pub wires : (node track : ℕ) → node < l.whole.count → l.track_of node ≡ Some track → track < l.tracks
  pub stays : (node track : ℕ) (rest : List ℕ) → node < l.whole.count → l.track_of node ≡ Some track → Leads l.whole l.goal node rest → All (IsOnTrack l track) rest
  pub goal_shown : (track : ℕ) → track < l.tracks → l.is_shown track l.goal ≡ true
  pub low : (track node : ℕ) → node < l.whole.count → l.is_shown track node ≡ true → l.place node < l.places
  pub order : (track node other : ℕ) → node < other → other < l.whole.count → l.is_shown track node ≡ true → l.is_shown track other ≡ true → l.place node < l.place other
  pub starts_shown : (track node : ℕ) (rest : List ℕ) → track < l.tracks → Contains l.starts node → IsOnTrack l track node → Leads l.whole l.goal node rest → l.is_shown track node ≡ true
  pub ends_shown : (track node end : ℕ) (rest : List ℕ) → track < l.tracks → node < l.whole.count → l.is_shown track node ≡ true → Contains (l.whole.ends node) end → IsOnTrack l track end → Leads l.whole l.goal end rest
      → l.is_shown track end ≡ true
