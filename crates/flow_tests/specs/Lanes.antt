-- Two lanes of three wires each, with one goal.
use Rattle.std.specs.Prelude.{ℕ, zero, suc, ◌+◌, ◌*◌, ◌%◌, ◌/◌, nat_lt, true, Option, Some, None, List, [], ◌∷◌, map, if◌then◌else◌}
use Rattle.least_path.specs.Graph.{Graph}
use Rattle.plane_search.specs.Planes.{Family}

-- the ends of a place in its lane
abbrev pub steps : ℕ → List ℕ
steps zero = 1 ∷ 2 ∷ []
steps (suc zero) = 2 ∷ 3 ∷ []
steps (suc (suc zero)) = 3 ∷ []
steps (suc (suc (suc n))) = []

abbrev pub number : ℕ → ℕ → ℕ
number track place = if nat_lt place 3 then 2 * place + track else 6

abbrev pub track_of : ℕ → Option ℕ
track_of node = if nat_lt node 6 then Some (node % 2) else None

-- `dear` is part of each cost
abbrev pub cost_at : ℕ → ℕ → ℕ → ℕ
cost_at dear factor node = 1 + dear + node * factor % 5

abbrev pub lanes_graph : ℕ → ℕ → Graph
lanes_graph dear factor = record {
  count = 7;
  ends = λ node. map (number (node % 2)) (steps (node / 2));
  cost = cost_at dear factor;
}

abbrev pub lane : ℕ → ℕ → ℕ → Graph
lane dear factor track = record {
  count = 4;
  ends = steps;
  cost = λ place. cost_at dear factor (number track place);
}

abbrev pub lanes : ℕ → ℕ → Family
lanes dear factor = record {
  whole = lanes_graph dear factor;
  starts = 0 ∷ 1 ∷ [];
  goal = 6;
  tracks = 2;
  track_of = track_of;
  places = 4;
  there = λ track place. true;
  plane = lane dear factor;
  number = number;
  entries = λ track. 0 ∷ [];
  exit = 3;
}
