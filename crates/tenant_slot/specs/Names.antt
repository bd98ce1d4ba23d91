-- The numbers and names that replies are printed with.
use Rattle.std.specs.Prelude.{ℕ, List, codes}
use Rattle.tenant_slot.specs.declared.reply.StateName.{StateName}
use Rattle.tenant_slot.specs.declared.reply.StateName.TheVariants.{Empty, Loaded, Packing, Packed, Placing, Placed, Routing, Routed, Unrouted}
use Rattle.tenant_slot.specs.declared.reply.FileKind.{FileKind}
use Rattle.tenant_slot.specs.declared.reply.FileKind.TheVariants.{Net, Place, Route}
use Rattle.tenant_slot.specs.declared.reply.Refusal.{Refusal}
use Rattle.tenant_slot.specs.declared.reply.Refusal.TheVariants.{WrongState, BadBlif, CannotPack, DoesNotFit, BadEffort}
use Rattle.tenant_slot.specs.declared.not_served.NotAnswered.{NotAnswered}
use Rattle.tenant_slot.specs.declared.not_served.NotAnswered.TheVariants.{NoMemory, JournalFull}

abbrev pub state_text : StateName → List ℕ
state_text Empty = codes "Empty"
state_text Loaded = codes "Loaded"
state_text Packing = codes "Packing"
state_text Packed = codes "Packed"
state_text Placing = codes "Placing"
state_text Placed = codes "Placed"
state_text Routing = codes "Routing"
state_text Routed = codes "Routed"
state_text Unrouted = codes "Unrouted"

abbrev pub file_text : FileKind → List ℕ
file_text Net = codes "net"
file_text Place = codes "place"
file_text Route = codes "route"

abbrev pub refusal_number : Refusal → ℕ
refusal_number (WrongState state) = 3
refusal_number (BadBlif fault) = 4
refusal_number (CannotPack ble) = 5
refusal_number (DoesNotFit misfit) = 6
refusal_number BadEffort = 7

abbrev pub refusal_text : Refusal → List ℕ
refusal_text (WrongState state) = codes "WrongState"
refusal_text (BadBlif fault) = codes "BadBlif"
refusal_text (CannotPack ble) = codes "CannotPack"
refusal_text (DoesNotFit misfit) = codes "DoesNotFit"
refusal_text BadEffort = codes "BadEffort"

abbrev pub not_served_number : NotAnswered → ℕ
not_served_number NoMemory = 1
not_served_number JournalFull = 2

abbrev pub not_served_text : NotAnswered → List ℕ
not_served_text NoMemory = codes "NoMemory"
not_served_text JournalFull = codes "JournalFull"
