-- What a user gets at the end of a placing and of a routing: the files, and how a routing without
-- routes ended.
use Rattle.std.specs.Prelude.{ℕ, List, [], Result, Ok, Err, Option, Some, None, slice_get}
use Rattle.std.specs.List.{zip}
use Rattle.std.specs.Option.{option_map_or}
use Rattle.tenant_slot.specs.Prelude.{Arch, Circuit, BlifFault, block_nets, net_name, PackedCircuit, packed_of, keys_of, Work, Placed, Routed, GaveUp as GivenUp, NoPath as WithoutPath, KeptPlaces, in_order, places_by_block, place_text_of, route_text_of}
use Rattle.tenant_slot.specs.declared.failure.RoutingFailure.{RoutingFailure}
use Rattle.tenant_slot.specs.declared.failure.RoutingFailure.TheVariants.{GaveUp as FailedAll, NoPath as FailedNet}
use Rattle.tenant_slot.specs.declared.reply.Ending.{Ending}
use Rattle.tenant_slot.specs.declared.reply.Ending.TheVariants.{GaveUp, NoPath}

-- how a routing ended, if it has no routes
abbrev pub failure_of : Result Work BlifFault → Option RoutingFailure
failure_of (Ok GivenUp) = Some FailedAll
failure_of (Ok (WithoutPath net)) = Some (FailedNet net)
failure_of value = None

-- that failure as replies have it, with the name of the net between blocks
abbrev pub ending_of : PackedCircuit → RoutingFailure → Ending
ending_of packed FailedAll = GaveUp
ending_of packed (FailedNet net) = NoPath (option_map_or (λ found. net_name packed.circuit found.net) (slice_get (block_nets packed) net) [])

-- the net's name comes from the packing of the text's circuit; a text with a fault is never routed
abbrev pub ending_told : Result Circuit BlifFault → Arch → RoutingFailure → Option Ending
ending_told (Ok circuit) arch failure = Some (ending_of (packed_of circuit arch) failure)
ending_told (Err fault) arch failure = None

-- the places of a whole placing, to be kept: by the blocks' kinds and names
abbrev pub kept_at_end : Result Work BlifFault → KeptPlaces
kept_at_end (Ok (Placed placing)) = in_order (zip (keys_of placing.packed) (places_by_block placing))
kept_at_end value = []

-- the `.place` file of a whole placing
abbrev pub place_file_of : Result Work BlifFault → List ℕ
place_file_of (Ok (Placed placing)) = place_text_of placing.strip placing.packed (places_by_block placing)
place_file_of value = []

-- the `.route` file of a whole routing on a whole placing
abbrev pub route_file_of : Result Work BlifFault → Result Work BlifFault → List ℕ
route_file_of (Ok (Placed placing)) (Ok (Routed routed)) = route_text_of placing.strip placing.packed (places_by_block placing) routed.routes
route_file_of placing routing = []
