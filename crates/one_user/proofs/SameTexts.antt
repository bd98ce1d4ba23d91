-- The files of a packing and a placing don't depend on the tracks of the channels.
use Rattle.one_user.proofs.Prelude.{◌≡◌, List, refl, ap, ◌∙◌, Arch, Circuit, block_nets, PackedCircuit, cluster_of, clusters_after, packed_of, Strip, Place, pads_of, Node, net_text_of, place_text_of, route_text_of}
use Rattle.std.specs.Prelude.{length}
use Rattle.one_user.proofs.SameNets.{with_tracks}

-- a packed circuit with the tracks of that architecture
abbrev with_its_tracks : PackedCircuit → Arch → PackedCircuit
with_its_tracks packed other = record packed { arch = with_tracks packed.arch other }

same_packing : (circuit : Circuit) (arch other : Arch) → packed_of circuit (with_tracks arch other) ≡ with_its_tracks (packed_of circuit arch) other
unfolding packed_of clusters_after cluster_of
same_packing circuit arch other = refl

-- ---- of any packed circuit

net_text_kept : (packed : PackedCircuit) (other : Arch) → net_text_of (with_its_tracks packed other) ≡ net_text_of packed
unfolding net_text_of
net_text_kept packed other = refl

place_text_kept : (packed : PackedCircuit) (other : Arch) (strip : Strip) (places : List Place) → place_text_of strip (with_its_tracks packed other) places ≡ place_text_of strip packed places
unfolding place_text_of
place_text_kept packed other strip places = refl

route_text_kept : (packed : PackedCircuit) (other : Arch) (strip : Strip) (places : List Place) (routes : List (List (List Node))) → route_text_of strip (with_its_tracks packed other) places routes ≡ route_text_of strip packed places routes
unfolding route_text_of
route_text_kept packed other strip places routes = refl

-- ---- of the packing of a circuit

module _ (circuit : Circuit) (arch other : Arch) where
  pub same_clusters : length (packed_of circuit (with_tracks arch other)).clusters ≡ length (packed_of circuit arch).clusters
  same_clusters = ap (λ (p : PackedCircuit). length p.clusters) (same_packing circuit arch other)

  pub same_net_count : length (block_nets (packed_of circuit (with_tracks arch other))) ≡ length (block_nets (packed_of circuit arch))
  same_net_count = ap (λ (p : PackedCircuit). length (block_nets p)) (same_packing circuit arch other)

  pub same_pads : (places : List Place) → pads_of (packed_of circuit (with_tracks arch other)) places ≡ pads_of (packed_of circuit arch) places
  same_pads places = ap (λ (p : PackedCircuit). pads_of p places) (same_packing circuit arch other)

  pub same_net_text : net_text_of (packed_of circuit (with_tracks arch other)) ≡ net_text_of (packed_of circuit arch)
  same_net_text = ap net_text_of (same_packing circuit arch other) ∙ net_text_kept (packed_of circuit arch) other

  pub same_place_text : (strip : Strip) (places : List Place) → place_text_of strip (packed_of circuit (with_tracks arch other)) places ≡ place_text_of strip (packed_of circuit arch) places
  same_place_text strip places = ap (λ (p : PackedCircuit). place_text_of strip p places) (same_packing circuit arch other) ∙ place_text_kept (packed_of circuit arch) other strip places

  pub same_route_text : (strip : Strip) (places : List Place) (routes : List (List (List Node))) → route_text_of strip (packed_of circuit (with_tracks arch other)) places routes ≡ route_text_of strip (packed_of circuit arch) places routes
  same_route_text strip places routes = ap (λ (p : PackedCircuit). route_text_of strip p places routes) (same_packing circuit arch other) ∙ route_text_kept (packed_of circuit arch) other strip places routes
