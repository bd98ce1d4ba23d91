-- Private: what a slot has when no job runs, and how a finished job changes it.
use Rattle.std.specs.Prelude.{ℕ, ◌≡◌, List, [], Ok, ⊤, true, false, Option, Some, None}
use Rattle.tenant_slot.specs.Prelude.{Arch, circuit_of, IsStripSize, Strip, IsFinished, JobState, is_over, Routing as RoutingJob, Sources, end_value, packing_sources, placing_sources, routing_sources, KeptPlaces, AreKeptOn}
use Rattle.tenant_slot.specs.declared.content.Content.{Content}
use Rattle.tenant_slot.specs.declared.content.Content.TheVariants.{Empty, Loaded, Packed, Placed, Routed, Unrouted}
use Rattle.tenant_slot.specs.declared.content.Netlist.{Netlist}
use Rattle.tenant_slot.specs.declared.failure.RoutingFailure.{RoutingFailure}
use Rattle.tenant_slot.specs.declared.reply.StateName.{StateName}
use Rattle.tenant_slot.specs.declared.reply.StateName.TheVariants.{Empty as EmptyName, Loaded as LoadedName, Packed as PackedName, Placed as PlacedName, Routed as RoutedName, Unrouted as UnroutedName}
use Rattle.tenant_slot.specs.Results.{failure_of}

-- the name of the state when no job runs
abbrev pub name_at_rest : Content → StateName
name_at_rest Empty = EmptyName
name_at_rest (Loaded netlist) = LoadedName
name_at_rest (Packed netlist packing) = PackedName
name_at_rest (Placed netlist packing placing) = PlacedName
name_at_rest (Routed netlist packing placing routing) = RoutedName
name_at_rest (Unrouted netlist packing placing failure) = UnroutedName

-- how the routing ended, if it has no routes
abbrev pub failure_in : Content → Option RoutingFailure
failure_in (Unrouted netlist packing placing failure) = Some failure
failure_in content = None

abbrev pub netlist_in : Content → Option Netlist
netlist_in Empty = None
netlist_in (Loaded netlist) = Some netlist
netlist_in (Packed netlist packing) = Some netlist
netlist_in (Placed netlist packing placing) = Some netlist
netlist_in (Routed netlist packing placing routing) = Some netlist
netlist_in (Unrouted netlist packing placing failure) = Some netlist

abbrev pub packing_in : Content → Option JobState
packing_in Empty = None
packing_in (Loaded netlist) = None
packing_in (Packed netlist packing) = Some packing
packing_in (Placed netlist packing placing) = Some packing
packing_in (Routed netlist packing placing routing) = Some packing
packing_in (Unrouted netlist packing placing failure) = Some packing

abbrev pub placing_in : Content → Option JobState
placing_in Empty = None
placing_in (Loaded netlist) = None
placing_in (Packed netlist packing) = None
placing_in (Placed netlist packing placing) = Some placing
placing_in (Routed netlist packing placing routing) = Some placing
placing_in (Unrouted netlist packing placing failure) = Some placing

-- the netlist's text; empty if there is no netlist
abbrev pub text_of : Content → List ℕ
text_of Empty = []
text_of (Loaded netlist) = netlist.text
text_of (Packed netlist packing) = netlist.text
text_of (Placed netlist packing placing) = netlist.text
text_of (Routed netlist packing placing routing) = netlist.text
text_of (Unrouted netlist packing placing failure) = netlist.text

-- without places and routes
abbrev pub cut_back : Content → Content
cut_back Empty = Empty
cut_back (Loaded netlist) = Loaded netlist
cut_back (Packed netlist packing) = Packed netlist packing
cut_back (Placed netlist packing placing) = Packed netlist packing
cut_back (Routed netlist packing placing routing) = Packed netlist packing
cut_back (Unrouted netlist packing placing failure) = Packed netlist packing

-- a placed netlist with its routes, or with how its routing ended
abbrev pub routed_with : Netlist → JobState → JobState → JobState → Option RoutingFailure → Content
routed_with netlist packing placing routing None = Routed netlist packing placing routing
routed_with netlist packing placing routing (Some failure) = Unrouted netlist packing placing failure

-- the content, with what the job has made that started from it
abbrev pub finished_with : Content → JobState → Content
finished_with (Loaded netlist) job = Packed netlist job
finished_with (Packed netlist packing) job = Placed netlist packing job
finished_with (Placed netlist packing placing) job = routed_with netlist packing placing job (failure_of (end_value job.step.sources))
finished_with content job = content

-- the job can have started from that content
abbrev pub CanFinish : Content → JobState → Type 0
CanFinish (Loaded netlist) job = ⊤
CanFinish (Packed netlist packing) job = ⊤
CanFinish (Placed netlist packing placing) job = IsFinished RoutingJob job
CanFinish content job = ⊥

-- the circuit is that of the netlist's text
abbrev pub IsNetlist : ℕ → Netlist → Type 0
IsNetlist lut_size netlist = circuit_of netlist.text lut_size ≡ Ok netlist.circuit

-- a finished job of these sources
pub record IsMadeOf (from : Sources) (job : JobState) : Type 0 where
  pub sources : job.step.sources ≡ from
  pub over : is_over job ≡ true
  pub put : job.made ≡ false

-- the packing of that netlist is finished, and the kept places are possible on the strip
pub record IsPacked (arch : Arch) (strip : Strip) (of : Netlist) (stays : KeptPlaces) (job : JobState) : Type 0 where
  pub netlist : IsNetlist arch.lut_size of
  pub packing : IsMadeOf (packing_sources arch strip of.text) job
  pub size : IsStripSize strip
  pub kept : AreKeptOn strip stays

-- the content is what the text, the kept places, the seed and the effort result in
abbrev pub HasContent : Arch → Strip → KeptPlaces → ℕ → ℕ → Content → Type 0
HasContent arch strip kept seed effort Empty = ⊤
HasContent arch strip kept seed effort (Loaded netlist) = IsNetlist arch.lut_size netlist
HasContent arch strip kept seed effort (Packed netlist packing) = IsNetlist arch.lut_size netlist × IsMadeOf (packing_sources arch strip netlist.text) packing
HasContent arch strip kept seed effort (Placed netlist packing placing) =
    IsNetlist arch.lut_size netlist × IsMadeOf (packing_sources arch strip netlist.text) packing × IsMadeOf (placing_sources arch strip netlist.text kept seed effort) placing
HasContent arch strip kept seed effort (Routed netlist packing placing routing) =
    IsNetlist arch.lut_size netlist × IsMadeOf (packing_sources arch strip netlist.text) packing × IsMadeOf (placing_sources arch strip netlist.text kept seed effort) placing
    × IsMadeOf (routing_sources arch strip netlist.text kept seed effort) routing × (failure_of (end_value (routing_sources arch strip netlist.text kept seed effort)) ≡ None)
HasContent arch strip kept seed effort (Unrouted netlist packing placing failure) =
    IsNetlist arch.lut_size netlist × IsMadeOf (packing_sources arch strip netlist.text) packing × IsMadeOf (placing_sources arch strip netlist.text kept seed effort) placing
