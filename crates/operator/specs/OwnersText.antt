-- The owners of a device's pins, wires and pads, as in the reply to the operator.
use Rattle.std.specs.Prelude.{ℕ, List, [], ◌∷◌, ◌++◌, length, codes, decimal}
use Rattle.std.specs.List.{flat_map}
use Rattle.operator.specs.Prelude.{Owned, Opin, Ipin, ChanX, ChanY, Resource, ResourceKind, Pad, node_text_of, position_text}
use Rattle.rr_graph.specs.declared.resource.ResourceKind.TheVariants.{Opin as OpinHeld, Ipin as IpinHeld, ChanX as ChanXHeld, ChanY as ChanYHeld}

-- a pin or a wire of that kind, as its node appears in the `.route` file of a device with `rows`
-- rows; a pad in the form of its own
abbrev pub resource_text : ℕ → Resource → ResourceKind → List ℕ
resource_text rows r OpinHeld = node_text_of rows (record { x = r.x; kind = Opin; y = r.y; n = r.n })
resource_text rows r IpinHeld = node_text_of rows (record { x = r.x; kind = Ipin; y = r.y; n = r.n })
resource_text rows r ChanXHeld = node_text_of rows (record { x = r.x; kind = ChanX; y = r.y; n = r.n })
resource_text rows r ChanYHeld = node_text_of rows (record { x = r.x; kind = ChanY; y = r.y; n = r.n })
resource_text rows r Pad = codes "PAD " ++ position_text r.x r.y ++ codes " Pad: " ++ decimal r.n

-- the line of a resource and its owner
abbrev pub owned_text : ℕ → Owned → List ℕ
owned_text rows owned = resource_text rows owned.resource owned.resource.kind ++ codes " owner " ++ decimal owned.id ++ 10 ∷ []

-- the number of owned resources on a device with `rows` rows, and one line for each
abbrev pub owners_text : ℕ → List Owned → List ℕ
owners_text rows owners = codes "owners " ++ decimal (length owners) ++ 10 ∷ flat_map (owned_text rows) owners
