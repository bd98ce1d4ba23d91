-- Private: the answers of the commands that may be refused because of the netlist, begin a job, or
-- give a file.
use Rattle.std.specs.Prelude.{ℕ, Bool, true, false, List, Result, Ok, Err, Option, Some, None}
use Rattle.tenant_slot.specs.Prelude.{Circuit, BlifFault, Sources, first_step, KeptPlaces}
use Rattle.tenant_slot.specs.declared.content.Netlist.{Netlist}
use Rattle.tenant_slot.specs.declared.reply.FileKind.{FileKind}
use Rattle.tenant_slot.specs.declared.reply.Misfit.{Misfit}
use Rattle.tenant_slot.specs.declared.reply.StateName.TheVariants.{Loaded, Packing, Placing, Routing}
use Rattle.tenant_slot.specs.declared.reply.Reply.{Reply}
use Rattle.tenant_slot.specs.declared.reply.Reply.TheVariants.{Accepted, File, Refused}
use Rattle.tenant_slot.specs.declared.reply.Refusal.TheVariants.{BadBlif, CannotPack, DoesNotFit, BadEffort}
use Rattle.tenant_slot.specs.declared.standing.Running.{Running}
use Rattle.tenant_slot.specs.declared.standing.Change.{Change}
use Rattle.tenant_slot.specs.declared.standing.Change.TheVariants.{Load, Replace, Begin, Place}
use Rattle.tenant_slot.specs.Answer.{Outcome}

-- the answer that changes nothing, and the one that changes something
abbrev pub without_change : ℕ → Reply → Outcome
without_change lut_size reply = record { lut_size = lut_size; change = None; reply = reply }

abbrev pub with_change : ℕ → Change → Reply → Outcome
with_change lut_size change reply = record { lut_size = lut_size; change = Some change; reply = reply }

-- a netlist is loaded: as the first, or in place of another, of which these places are kept
abbrev pub load_change : Netlist → Option KeptPlaces → Change
load_change netlist None = Load netlist
load_change netlist (Some kept) = Replace netlist kept

abbrev pub load_outcome : ℕ → List ℕ → Option KeptPlaces → Result Circuit BlifFault → Outcome
load_outcome lut_size text kept (Ok circuit) = with_change lut_size (load_change (record { text = text; circuit = circuit }) kept) (Accepted Loaded)
load_outcome lut_size text kept (Err fault) = without_change lut_size (Refused (BadBlif fault))

-- a job that begins
abbrev pub job_begun : ℕ → ℕ → Sources → Running
job_begun id generation sources = record { sources = sources; ready = Some (first_step id generation sources) }

-- a packing begins; but with a BLE given, the least that fits into no cluster alone, it is refused
abbrev pub pack_outcome : ℕ → Running → Option ℕ → Outcome
pack_outcome lut_size job None = with_change lut_size (Begin job) (Accepted Packing)
pack_outcome lut_size job (Some ble) = without_change lut_size (Refused (CannotPack ble))

-- a placing begins; but it is refused if its effort is too great, or if the strip has too few of
-- the given places
abbrev pub place_unless : ℕ → Running → Option Misfit → Outcome
place_unless lut_size job None = with_change lut_size (Place job) (Accepted Placing)
place_unless lut_size job (Some misfit) = without_change lut_size (Refused (DoesNotFit misfit))

abbrev pub place_outcome : ℕ → Running → Bool → Option Misfit → Outcome
place_outcome lut_size job true misfit = without_change lut_size (Refused BadEffort)
place_outcome lut_size job false misfit = place_unless lut_size job misfit

-- a routing begins
abbrev pub route_outcome : ℕ → Running → Outcome
route_outcome lut_size job = with_change lut_size (Begin job) (Accepted Routing)

-- the reply has a file
abbrev pub file_outcome : ℕ → FileKind → List ℕ → Outcome
file_outcome lut_size kind text = without_change lut_size (File kind text)
