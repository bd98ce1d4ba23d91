-- A graph with two edges from each node, as the only plane of a family.
use Rattle.std.specs.Prelude.{ℕ, ◌+◌, ◌*◌, true, None, List, length, map, take, drop, slice_index}
use Rattle.least_path.specs.Graph.{Graph}
use Rattle.plane_search.specs.Planes.{Family}

abbrev pub pairs : List ℕ → List ℕ → Graph
pairs ends costs = record {
  count = length costs;
  ends = λ i. map (λ end. end + 0) (take 2 (drop (2 * i) ends));
  cost = λ i. slice_index costs i;
}

-- no node is a wire, so all nodes are on the one track
abbrev pub one_plane : Graph → List ℕ → ℕ → Family
one_plane g starts goal = record {
  whole = g;
  starts = starts;
  goal = goal;
  tracks = 1;
  track_of = λ node. None;
  places = g.count;
  there = λ track place. true;
  plane = λ track. g;
  number = λ track place. place;
  entries = λ track. starts;
  exit = goal;
}
