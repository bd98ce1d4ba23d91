-- The most overused nodes of a routing that was given up, and the nets on them.
use Rattle.std.specs.Prelude.{ℕ, ◌≡◌, ◌<◌, ◌≤◌, ◌⊎◌, List, [], Ok, Option, Some, None, All, AllPairs, Contains, filter, length, slice_get, slice_index_or, slice_index}
use Rattle.std.specs.List.{AllZip, range_with_len}
use Rattle.std.specs.Option.{option_map_or}
use Rattle.one_user.specs.Prelude.{circuit_of, Circuit, block_nets, net_name, PackedCircuit, packed_of, nets_in, step_count, Basis, graph_of, Tree, occupancy, routed_after, count_over, has_node, overuse_at, wiring_of}
use Rattle.tenant_slot.specs.declared.reply.Ending.TheVariants.{GaveUp}
use Rattle.one_user.specs.Outcomes.{Task, outcome_of, routing_of}
use Rattle.one_user.specs.declared.crowding.CrowdedNode.{CrowdedNode}
use Rattle.one_user.specs.declared.crowding.Crowding.{Crowding}
use Rattle.one_user.specs.declared.outcome.FlowOutcome.TheVariants.{Unrouted}
use Rattle.one_user.specs.declared.outcome.Unrouted.{Unrouted as Left}

-- a node is listed before another one: it is overused by more trees, or by as many and has the
-- lesser number
abbrev pub ComesBefore : (ℕ → ℕ) → ℕ → ℕ → Type 0
ComesBefore over node other = (over other < over node) ⊎ ((over node ≡ over other) × (node < other))

-- the node is one of the first nodes, and is overused
abbrev pub IsOverused : (ℕ → ℕ) → ℕ → ℕ → Type 0
IsOverused over count node = (node < count) × (0 < over node)

-- the list has the overused ones of the first nodes, in that order: all of them, or, if they are
-- more than the limit, as many as the limit, and each other one would come after these
pub record AreMostOverused (over : ℕ → ℕ) (count limit : ℕ) (nodes : List ℕ) : Type 0 where
  pub few : length nodes ≤ limit
  pub overused : All (IsOverused over count) nodes
  pub in_order : AllPairs (ComesBefore over) nodes
  pub others : (node : ℕ) → IsOverused over count node → Contains nodes node ⊎ ((length nodes ≡ limit) × All (λ listed. ComesBefore over listed node) nodes)

-- the numbers of the nets whose trees have the node
abbrev pub nets_on : List Tree → ℕ → List ℕ
nets_on trees node = filter (λ net. has_node (slice_index_or trees net []) node) (range_with_len 0 (length trees))

-- what is listed of the node with that number
pub record IsCrowdedNode (basis : Basis) (trees : List Tree) (number : ℕ) (told : CrowdedNode) : Type 0 where
  pub node : told.node ≡ (graph_of basis).node number
  pub occupancy : told.occupancy ≡ occupancy trees number
  pub capacity : told.capacity ≡ (wiring_of basis).capacity number
  pub nets : told.nets.items ≡ nets_on trees number

-- these are the most overused nodes of the trees, at most that many
abbrev pub AreCrowdedNodes : Basis → List Tree → ℕ → List CrowdedNode → Type 0
AreCrowdedNodes basis trees limit nodes =
    (numbers : List ℕ) × AreMostOverused (overuse_at (wiring_of basis) trees) (graph_of basis).count limit numbers × AllZip (IsCrowdedNode basis trees) numbers nodes

-- the routing of the task's netlist is given up after its last iteration
abbrev pub IsGivenUp : Task → Type 0
IsGivenUp task = (left : Left) × (outcome_of task ≡ Unrouted left) × (left.ending ≡ GaveUp)

-- the trees of the task's circuit after the last iteration of its routing
abbrev pub last_trees : Task → Circuit → List Tree
last_trees task circuit = (routed_after (wiring_of (record { arch = task.arch; strip = task.strip })) (nets_in (routing_of task) circuit) (step_count (routing_of task))).trees

-- the crowding of the trees after the last iteration: the number of all overused nodes, and the ten
-- most overused ones
pub record IsCrowding (task : Task) (crowding : Crowding) : Type 0 where
  pub circuit : Circuit
  pub said : circuit_of task.text task.arch.lut_size ≡ Ok circuit
  pub packed : crowding.packed ≡ packed_of circuit task.arch
  pub rows : crowding.rows ≡ task.strip.rows
  pub overused : crowding.overused ≡ count_over (overuse_at (wiring_of (record { arch = task.arch; strip = task.strip })) (last_trees task circuit)) (graph_of (record { arch = task.arch; strip = task.strip })).count
  pub nodes : AreCrowdedNodes (record { arch = task.arch; strip = task.strip }) (last_trees task circuit) 10 crowding.nodes.items

-- there is a crowding exactly if the routing is given up
abbrev pub IsCrowdingOf : Task → Option Crowding → Type 0
IsCrowdingOf task (Some crowding) = IsGivenUp task × IsCrowding task crowding
IsCrowdingOf task None = IsGivenUp task → ⊥

-- the name of a net between blocks, by its number
abbrev pub net_between : PackedCircuit → ℕ → List ℕ
net_between packed net = option_map_or (λ found. net_name packed.circuit found.net) (slice_get (block_nets packed) net) []

-- Private: the overuse of each node, from a table
abbrev pub over_of : List ℕ → ℕ → ℕ
over_of overs node = slice_index overs node

-- Private: the node comes after the last one that is listed, if there is one
abbrev pub IsAfterLast : (ℕ → ℕ) → Option ℕ → ℕ → Type 0
IsAfterLast over None node = Unit {0}
IsAfterLast over (Some last) node = ComesBefore over last node

-- Private: of the first nodes that are overused and come after the last one, this comes first
abbrev pub IsNextMostOverused : (ℕ → ℕ) → ℕ → Option ℕ → Option ℕ → Type 0
IsNextMostOverused over count last None = (node : ℕ) → IsOverused over count node → IsAfterLast over last node → ⊥
IsNextMostOverused over count last (Some next) =
    IsOverused over count next × IsAfterLast over last next
    × ((node : ℕ) → IsOverused over count node → IsAfterLast over last node → (next ≡ node) ⊎ ComesBefore over next node)

-- Private: of the node so far, if there is one, and another, this comes first
abbrev pub IsFirstOf : (ℕ → ℕ) → Option ℕ → ℕ → Option ℕ → Type 0
IsFirstOf over None node result = result ≡ Some node
IsFirstOf over (Some next) node result = (ComesBefore over next node × (result ≡ Some next)) ⊎ ((ComesBefore over next node → ⊥) × (result ≡ Some node))
