-- Private: lists gathered from a routed circuit, one more block, path or tree at a time.
use Rattle.std.specs.Prelude.{ℕ, List}
use Rattle.std.specs.List.{flat_map, range_with_len}
use Rattle.std.specs.Option.{option_to_list}
use Rattle.job_state.specs.Prelude.{PackedCircuit, Place, Node, Resource, resource_of, block_at, place_of}
use Rattle.job_state.specs.RoutedCircuits.{pad_of}

-- the pads of the blocks below a number
abbrev pub pads_below : PackedCircuit → List Place → ℕ → List Resource
pads_below packed places count = flat_map (λ block. pad_of (block_at packed block) (place_of places block)) (range_with_len 0 count)

-- the pins and wires on a path, on the paths of a tree, and of all trees
abbrev pub on_path : List Node → List Resource
on_path path = flat_map (λ node. option_to_list (resource_of node)) path

abbrev pub on_tree : List (List Node) → List Resource
on_tree tree = flat_map on_path tree

abbrev pub on_trees : List (List (List Node)) → List Resource
on_trees trees = flat_map on_tree trees
