-- Private: the two nodes of a step on a path, and the node beside another one.
use Rattle.std.specs.Prelude.{List, Option, find, option_map}
use Rattle.configuration_text.specs.Prelude.{is_same_node, Node}
use Rattle.configuration_text.specs.declared.pins.Side.{Side}
use Rattle.configuration_text.specs.declared.pins.Side.TheVariants.{After, Before}

abbrev pub anchor : Side → Node × Node → Node
anchor After step = step.0
anchor Before step = step.1

abbrev pub neighbor : Side → Node × Node → Node
neighbor After step = step.1
neighbor Before step = step.0

-- the node on that side of the first step that has the node on its other side
abbrev pub node_beside : Side → List (Node × Node) → Node → Option Node
node_beside side steps node = option_map (λ step. neighbor side step) (find (λ step. is_same_node (anchor side step) node) steps)
