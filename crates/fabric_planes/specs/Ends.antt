-- The ends of a node's edges, as a plane lists them.
use Rattle.std.specs.Prelude.{◌≡◌, ℕ, ◌-◌, ◌*◌, ◌<◌, ◌++◌, List, [], ◌∷◌, length, slice_index_or, map, filter}
use Rattle.fabric_planes.specs.Prelude.{Node, Basis, graph_of}
use Rattle.fabric_planes.specs.declared.ends.Listed.{Listed}
use Rattle.fabric_planes.specs.declared.ends.View.{View}
use Rattle.fabric_planes.specs.Layout.{Terminals, place_of, shows, stride_of}

-- the places of those of the nodes that a track's plane shows
abbrev pub shown_places : Basis → Terminals → ℕ → List ℕ → List ℕ
shown_places basis t track nodes =
    map (λ node. place_of basis ((graph_of basis).node node)) (filter (λ node. shows basis.strip t track ((graph_of basis).node node).kind ((graph_of basis).node node)) nodes)

-- the ends of a node's edges in a track's plane
unfoldable pub shown_ends : Basis → Terminals → ℕ → ℕ → List ℕ
shown_ends basis t track number = shown_places basis t track ((graph_of basis).ends number)

-- ---- rows: ends, each less a base

-- what belongs to the node's block or pad
abbrev pub seen_from : Node → Terminals
seen_from node = record { source = node; sink = node }

abbrev pub row_from : Basis → View → ℕ → List ℕ → List ℕ
row_from basis view base nodes = map (λ place. place - base) (shown_places basis (seen_from view.node) view.track nodes)

-- the place two columns before that of a node
abbrev pub base_of : Basis → ℕ → ℕ
base_of basis number = place_of basis ((graph_of basis).node number) - 2 * stride_of basis

-- the row of a node
abbrev pub row_of : Basis → View → ℕ → List ℕ
row_of basis view number = row_from basis view (base_of basis number) ((graph_of basis).ends number)

-- if the strip has the node, the row has its ends
abbrev pub IsRowFor : Basis → Listed → List ℕ → Type 0
IsRowFor basis listed row = (number : ℕ) → number < (graph_of basis).count → (graph_of basis).node number ≡ listed.node → row ≡ row_of basis listed.view number

-- one row more
pub record AddsRow (basis : Basis) (listed : Listed) (old new : List (List ℕ)) : Type 0 where
  pub row : List ℕ
  pub is : IsRowFor basis listed row
  pub added : new ≡ old ++ row ∷ []

-- the rows list, each by its number, what they are for
pub record AreRowsBelow (basis : Basis) (listed_at : ℕ → Listed) (count : ℕ) (rows : List (List ℕ)) : Type 0 where
  pub long : length rows ≡ count
  pub rows_are : (number : ℕ) → number < count → IsRowFor basis (listed_at number) (slice_index_or rows number [])
