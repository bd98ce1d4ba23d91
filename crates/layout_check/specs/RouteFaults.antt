-- What is wrong with the paths of a net.
use Rattle.std.specs.Prelude.{ℕ, ◌≡◌, ◌≢◌, Bool, true, false, List, [], ◌∷◌, Contains}
use Rattle.layout_check.specs.Prelude.{Node, Opin, is_edge, is_node, Basis, IsLeaf, LeadsOver, pairs_of, path_nodes}
use Rattle.layout_check.specs.declared.fault.RouteFault.{RouteFault}
use Rattle.layout_check.specs.declared.fault.RouteFault.TheVariants.{NoNode, NoEdge, IntoSource, TwoWays, NoSource, NotReached, NoPin, TwoPins, NoSink, LeadsOn, EndsAt, NotEmpty}

-- what a fault says of the paths of a net from the source to the sinks
abbrev pub IsRouteFault : Basis → Node → List Node → List (List Node) → RouteFault → Type 0
IsRouteFault basis source sinks paths (NoNode node) = Contains (path_nodes paths) node × (is_node basis.arch basis.strip node ≡ false)
IsRouteFault basis source sinks paths (NoEdge a b) = Contains (pairs_of paths) (a, b) × (is_edge basis.arch basis.strip a b ≡ false)
IsRouteFault basis source sinks paths (IntoSource a) = Contains (pairs_of paths) (a, source)
IsRouteFault basis source sinks paths (TwoWays a b node) = Contains (pairs_of paths) (a, node) × Contains (pairs_of paths) (b, node) × (a ≢ b)
IsRouteFault basis source sinks paths NoSource = Contains (path_nodes paths) source → ⊥
IsRouteFault basis source sinks paths (NotReached node) = Contains (path_nodes paths) node × ((rest : List Node) → LeadsOver (pairs_of paths) node source rest → ⊥)
IsRouteFault basis source sinks paths NoPin = (node : Node) → Contains (path_nodes paths) node → node.kind ≡ Opin → ⊥
IsRouteFault basis source sinks paths (TwoPins a b) = Contains (path_nodes paths) a × Contains (path_nodes paths) b × (a.kind ≡ Opin) × (b.kind ≡ Opin) × (a ≢ b)
IsRouteFault basis source sinks paths (NoSink sink) = Contains sinks sink × (Contains (path_nodes paths) sink → ⊥)
IsRouteFault basis source sinks paths (LeadsOn sink) = Contains sinks sink × (next : Node) × Contains (pairs_of paths) (sink, next)
IsRouteFault basis source sinks paths (EndsAt node) = Contains (path_nodes paths) node × IsLeaf (pairs_of paths) node × (Contains sinks node → ⊥)
IsRouteFault basis source sinks paths (NotEmpty node) = ⊥

-- the same for any net: a net without sinks has only the fault of not being empty
abbrev pub IsPathFault : Basis → Node → List Node → List (List Node) → RouteFault → Type 0
IsPathFault basis source [] paths (NotEmpty node) = Contains (path_nodes paths) node
IsPathFault basis source [] paths fault = ⊥
IsPathFault basis source (sink ∷ sinks) paths fault = IsRouteFault basis source (sink ∷ sinks) paths fault
