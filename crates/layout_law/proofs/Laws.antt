-- The laws of the crates below that this one rests on.
use Rattle.layout_law.proofs.Prelude.{All, AllPairs, Contains, IsNarrow, ArePlaced, PackedCircuit, IsPacked, IsLawfulPacking, IsPlaceIn, places_of, IsStripSize, Strip, Kind, Logic, Pad, Place, Connects, Implements, layout_of, IsLegal, Done, routed_after, nets_to_route, wiring_of, routes_by_node, AreNets, Basis, IsBasis, IsRoutingGraph, graph_of, Node, is_past_last, net_text, place_text, route_text, net_text_of, place_text_of, route_text_of}
use Rattle.std.specs.Prelude.{ℕ, ◌≡◌, ◌≢◌, ◌+◌, ◌≤◌, false, List}

pub record Laws : Type 0 where
  pub within : (strip : Strip) (kind : Kind) → IsStripSize strip → All (IsPlaceIn strip kind) (places_of strip kind)
  pub apart : (strip : Strip) (kind : Kind) → IsStripSize strip → AllPairs (λ place other. place ≢ other) (places_of strip kind)
  pub kinds_apart : (strip : Strip) (place : Place) → IsStripSize strip → Contains (places_of strip Logic) place → Contains (places_of strip Pad) place → ⊥
  pub packing : (packed : PackedCircuit) → IsPacked packed → IsLawfulPacking packed
  pub passes : (strip : Strip) (passes : ℕ) → is_past_last strip passes ≡ false → passes ≤ strip.width + strip.rows
  pub graph : (basis : Basis) → IsBasis basis → IsRoutingGraph basis (graph_of basis)
  pub legal : (basis : Basis) (packed : PackedCircuit) (places : List Place) (iterations : ℕ) → IsBasis basis → AreNets (wiring_of basis) (nets_to_route basis packed places) →
      (routed_after (wiring_of basis) (nets_to_route basis packed places) iterations).standing ≡ Done →
      IsLegal basis.arch basis.strip packed places (routes_by_node (graph_of basis) (routed_after (wiring_of basis) (nets_to_route basis packed places) iterations).trees)
  pub implements : (packed : PackedCircuit) (strip : Strip) (places : List Place) (routes : List (List (List Node))) → IsPacked packed → IsNarrow packed.arch.lut_size packed.circuit → IsLawfulPacking packed →
      ArePlaced strip packed places → IsLegal packed.arch strip packed places routes → Implements packed.circuit packed.arch strip (layout_of packed places routes)
  pub connects : (packed : PackedCircuit) (strip : Strip) (places : List Place) (routes : List (List (List Node))) → IsPacked packed → IsNarrow packed.arch.lut_size packed.circuit → IsLawfulPacking packed →
      ArePlaced strip packed places → IsLegal packed.arch strip packed places routes → Connects packed.circuit packed.arch strip (layout_of packed places routes)
  pub net_printed : (packed : PackedCircuit) (places : List Place) (routes : List (List (List Node))) → IsPacked packed → net_text_of packed ≡ net_text packed.circuit packed.arch (layout_of packed places routes)
  pub place_printed : (packed : PackedCircuit) (strip : Strip) (places : List Place) (routes : List (List (List Node))) → IsPacked packed →
      place_text_of strip packed places ≡ place_text packed.circuit strip (layout_of packed places routes)
  pub route_printed : (packed : PackedCircuit) (strip : Strip) (places : List Place) (routes : List (List (List Node))) → IsPacked packed →
      route_text_of strip packed places routes ≡ route_text packed.circuit strip (layout_of packed places routes)
