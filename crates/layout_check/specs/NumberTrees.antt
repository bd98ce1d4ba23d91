-- Trees by the numbers of their nodes: a hop leads from a node to the next one of a path.
use Rattle.std.specs.Prelude.{ℕ, ◌≡◌, ◌≢◌, ◌<◌, ◌⊎◌, Bool, true, false, List, All, Contains, length}
use Rattle.layout_check.specs.Marks.{is_in}
use Rattle.layout_check.specs.declared.trees.HopFault.{HopFault}
use Rattle.layout_check.specs.declared.trees.HopFault.TheVariants.{IntoRoot, TwoHops}

-- no hop leads into the root, and no two from different nodes to one
pub record AreOneWay (hops : List (ℕ × ℕ)) (root : ℕ) : Type 0 where
  pub first : (a : ℕ) → Contains hops (a, root) → ⊥
  pub one_way : (a b node : ℕ) → Contains hops (a, node) → Contains hops (b, node) → a ≡ b

-- what a fault of the hops says
abbrev pub IsHopFault : List (ℕ × ℕ) → ℕ → HopFault → Type 0
IsHopFault hops root (IntoRoot from) = Contains hops (from, root)
IsHopFault hops root (TwoHops from other to) = Contains hops (from, to) × Contains hops (other, to) × (from ≢ other)

-- the nodes that a fault names are below the count
abbrev pub IsFaultWithin : ℕ → HopFault → Type 0
IsFaultWithin count (IntoRoot from) = from < count
IsFaultWithin count (TwoHops from other to) = (from < count) × (other < count) × (to < count)

-- hops lead from the root to the node
pub data Reaches (hops : List (ℕ × ℕ)) (root : ℕ) : ℕ → Type 0 where
  here : Reaches hops root root
  onward : (a b : ℕ) → Reaches hops root a → Contains hops (a, b) → Reaches hops root b

-- hops lead from the root to each node of the set
abbrev pub AreReached : List (ℕ × ℕ) → ℕ → List Bool → Type 0
AreReached hops root marks = (node : ℕ) → is_in marks node ≡ true → Reaches hops root node

-- no hop leads out of the set
abbrev pub IsClosed : List (ℕ × ℕ) → List Bool → Type 0
IsClosed hops marks = (a b : ℕ) → Contains hops (a, b) → is_in marks a ≡ true → is_in marks b ≡ true

-- the set has grown from another
abbrev pub HasKept : List Bool → List Bool → Type 0
HasKept old new = (node : ℕ) → is_in old node ≡ true → is_in new node ≡ true
