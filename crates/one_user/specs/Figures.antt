-- What a routed circuit uses of its device.
use Rattle.std.specs.Prelude.{ℕ, ◌≡◌, ◌+◌, ◌*◌, ◌≤◌, ◌<◌, Bool, true, false, ◌||◌, List, length, count_by, AllPairs, All, Option, Some, None, Ok}
use Rattle.one_user.specs.Prelude.{circuit_of, Circuit, block_nets, PackedCircuit, packed_of, ChannelUse, ChannelDirection, Across, Up, is_wire, Strip, step_count, resources_of, Sources, Basis, IsEarlier, has, Resource, ResourceKind}
use Rattle.one_user.specs.Outcomes.{Task, routing_of}
use Rattle.one_user.specs.declared.figures.Figures.{Figures}

-- a wire of a channel
abbrev pub is_channel_wire : ResourceKind → Bool
is_channel_wire kind = is_wire Across kind || is_wire Up kind

-- how many of these are such wires
abbrev pub wires_in : List Resource → ℕ
wires_in held = count_by (λ one. is_channel_wire one.kind) held

-- a product of three numbers: columns, rows, and a number for each place
unfoldable pub product : ℕ → ℕ → ℕ → ℕ
product a b c = a * b * c

-- the number of wires of a device: above its rows, right of its columns, and left of the first
abbrev pub wires_there : Basis → ℕ
wires_there device = product device.strip.width (device.strip.rows + 1) device.arch.tracks + product (device.strip.width + 1) device.strip.rows device.arch.tracks

-- what the circuit occupies of the device, in node order, each once
pub record IsHeldList (task : Task) (held : List Resource) : Type 0 where
  pub order : AllPairs IsEarlier held
  pub exact : (r : Resource) → has held r ≡ has (resources_of (routing_of task)) r

-- the numbers of used and of all blocks, pads and wires; the used ones are counted over the packed
-- circuit, or over what the circuit occupies. Each wire above a row or right of a column is as long
-- as one block
pub record IsFigures (task : Task) (circuit : Circuit) (figures : Figures) : Type 0 where
  pub blocks : figures.blocks ≡ record { used = length (packed_of circuit task.arch).clusters; there = product task.strip.width task.strip.rows 1 }
  pub pads : figures.pads ≡ record { used = length circuit.inputs + length circuit.outputs; there = product task.strip.width 2 task.strip.io_rat }
  pub nets : figures.nets ≡ length (block_nets (packed_of circuit task.arch))
  pub held : List Resource
  pub is_held : IsHeldList task held
  pub wires_used : figures.wires.used ≡ wires_in held
  pub wires_there : figures.wires.there ≡ wires_there (record { arch = task.arch; strip = task.strip })
  pub tracks : figures.tracks ≡ task.arch.tracks
  pub iterations : figures.iterations ≡ step_count (routing_of task)

-- the figures of the netlist's circuit
abbrev pub HasFigures : Task → Figures → Type 0
HasFigures task figures = (circuit : Circuit) × (circuit_of task.text task.arch.lut_size ≡ Ok circuit) × IsFigures task circuit figures
