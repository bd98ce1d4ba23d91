-- What the tests of a net's tree say of it, by the numbers of its nodes.
use Rattle.std.specs.Prelude.{ℕ, ◌≡◌, ◌↔◌, true, List, [], All, Contains, length, map}
use Rattle.layout_check.specs.Prelude.{Node, is_edge, is_node, Basis, graph_of, IsLeaf, number_of}
use Rattle.layout_check.specs.declared.fault.RouteFault.{RouteFault}
use Rattle.layout_check.specs.declared.fault.RouteFault.TheVariants.{IntoSource, TwoWays}
use Rattle.layout_check.specs.declared.trees.HopFault.{HopFault}
use Rattle.layout_check.specs.declared.trees.HopFault.TheVariants.{IntoRoot, TwoHops}
use Rattle.layout_check.specs.declared.work.NetNumbers.{NetNumbers}
use Rattle.layout_check.specs.declared.work.Work.{Work}
use Rattle.layout_check.specs.Numbered.{IsNumbered}
use Rattle.layout_check.specs.NumberTrees.{Reaches}
use Rattle.layout_check.specs.RouteFaults.{IsRouteFault}

-- the sets and lists have room for this number of nodes
pub record HasRoom (work : Work) (count : ℕ) : Type 0 where
  pub marks : length work.marks ≡ count
  pub inside : length work.inside ≡ count
  pub wanted : length work.wanted ≡ count
  pub parents : length work.parents.items ≡ count

-- no number has been added
pub record AreEmpty (numbers : NetNumbers) : Type 0 where
  pub no_nodes : numbers.nodes.items ≡ []
  pub no_hops : numbers.hops.items ≡ []
  pub no_sinks : numbers.sinks.items ≡ []

-- a fault of the hops, with nodes in place of their numbers
abbrev pub told_fault : Basis → HopFault → RouteFault
told_fault basis (IntoRoot from) = IntoSource ((graph_of basis).node from)
told_fault basis (TwoHops from other to) = TwoWays ((graph_of basis).node from) ((graph_of basis).node other) ((graph_of basis).node to)

-- each hop is an edge
abbrev pub AreEdges : Basis → List (ℕ × ℕ) → Type 0
AreEdges basis hops = (a b : ℕ) → Contains hops (a, b) → is_edge basis.arch basis.strip ((graph_of basis).node a) ((graph_of basis).node b) ≡ true

-- the root is a node, and hops lead from it to each node
pub record AreAllReached (root : ℕ) (nodes : List ℕ) (hops : List (ℕ × ℕ)) : Type 0 where
  pub root_in : Contains nodes root
  pub reached : (node : ℕ) → Contains nodes node → Reaches hops root node

-- the sinks are the nodes from which no hop leads
abbrev pub AreEnds : List ℕ → List ℕ → List (ℕ × ℕ) → Type 0
AreEnds sinks nodes hops = (node : ℕ) → ((Contains nodes node × IsLeaf hops node) ↔ Contains sinks node)

-- these are the numbers of nodes of the strip
pub record AreNumbers (basis : Basis) (nodes : List Node) (numbers : List ℕ) : Type 0 where
  pub numbers_are : numbers ≡ map (number_of (graph_of basis)) nodes
  pub inside : All (λ node. is_node basis.arch basis.strip node ≡ true) nodes

-- the fault is one of all paths with these numbers
abbrev pub IsFaultOf : Basis → ℕ → List ℕ → List ℕ → List (ℕ × ℕ) → RouteFault → Type 0
IsFaultOf basis root sinks nodes hops fault =
    (paths : List (List Node)) (ends : List Node) → IsNumbered basis paths nodes hops → AreNumbers basis ends sinks → IsRouteFault basis ((graph_of basis).node root) ends paths fault
