-- The resources of a device that a circuit occupies: pins, wires and pads, and their order.
use Rattle.std.specs.Prelude.{ℕ, ◌≡◌, ◌+◌, ◌<◌, ◌⊎◌, ◌&&◌, ◌==◌, nat_le, nat_lt, List, Bool, Option, Some, None, option_map}
use Rattle.std.specs.List.{list_any}
use Rattle.rr_graph.specs.Prelude.{Arch, Strip}
use Rattle.rr_graph.specs.declared.node.NodeKind.{NodeKind}
use Rattle.rr_graph.specs.declared.node.NodeKind.TheVariants.{Opin, Ipin, ChanX, ChanY}
use Rattle.rr_graph.specs.declared.node.Node.{Node}
use Rattle.rr_graph.specs.declared.resource.ResourceKind.{ResourceKind}
use Rattle.rr_graph.specs.declared.resource.ResourceKind.TheVariants.{Opin as OpinHeld, Ipin as IpinHeld, ChanX as ChanXHeld, ChanY as ChanYHeld, Pad}
use Rattle.rr_graph.specs.declared.resource.Resource.{Resource}
use Rattle.rr_graph.specs.Geometry.{is_node, is_pad_row}

-- the resource kind of a node, if it is a pin or a wire
abbrev pub resource_kind_of : NodeKind → Option ResourceKind
resource_kind_of Opin = Some OpinHeld
resource_kind_of Ipin = Some IpinHeld
resource_kind_of ChanX = Some ChanXHeld
resource_kind_of ChanY = Some ChanYHeld
resource_kind_of _ = None

-- the pin or wire that a node represents
abbrev pub resource_of : Node → Option Resource
resource_of node = option_map (λ kind. record { x = node.x; kind = kind; y = node.y; n = node.n }) (resource_kind_of node.kind)

-- the resource, moved some columns to the right
abbrev pub moved_resource : ℕ → Resource → Resource
moved_resource columns resource = record resource { x = resource.x + columns }

-- the rank of a kind in node order; pads come last
abbrev pub resource_rank : ResourceKind → ℕ
resource_rank OpinHeld = 0
resource_rank IpinHeld = 1
resource_rank ChanXHeld = 2
resource_rank ChanYHeld = 3
resource_rank Pad = 4

-- a resource comes before another: by column, then kind, then row, then number
abbrev pub IsEarlier : Resource → Resource → Type 0
IsEarlier a b =
    (a.x < b.x) ⊎ ((a.x ≡ b.x) × ((resource_rank a.kind < resource_rank b.kind) ⊎ ((resource_rank a.kind ≡ resource_rank b.kind) × ((a.y < b.y) ⊎ ((a.y ≡ b.y) × (a.n < b.n))))))

-- the strip has the resource: a node of this kind, or a pad of one of its columns
abbrev pub is_there : Arch → Strip → Resource → Bool
is_there arch strip resource = by_kind arch strip resource.kind resource.x resource.y resource.n
  where
    node_at : ℕ → NodeKind → ℕ → ℕ → Node
    node_at x kind y n = record { x = x; kind = kind; y = y; n = n }

    by_kind : Arch → Strip → ResourceKind → ℕ → ℕ → ℕ → Bool
    by_kind arch strip OpinHeld x y n = is_node arch strip (node_at x Opin y n)
    by_kind arch strip IpinHeld x y n = is_node arch strip (node_at x Ipin y n)
    by_kind arch strip ChanXHeld x y n = is_node arch strip (node_at x ChanX y n)
    by_kind arch strip ChanYHeld x y n = is_node arch strip (node_at x ChanY y n)
    by_kind arch strip Pad x y n = nat_le 1 x && (nat_le x strip.width && (is_pad_row strip y && nat_lt n strip.io_rat))

-- the two resources are equal
abbrev pub is_same : Resource → Resource → Bool
is_same a b = (a.x == b.x) && ((resource_rank a.kind == resource_rank b.kind) && ((a.y == b.y) && (a.n == b.n)))

-- the resource is in the list
abbrev pub has : List Resource → Resource → Bool
has resources resource = list_any (is_same resource) resources
