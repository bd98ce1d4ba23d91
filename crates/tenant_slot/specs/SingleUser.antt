-- The service for a single user: what each event of one tenancy does, and its reply, on a device of
-- the strip's size.
use Rattle.std.specs.Prelude.{ℕ, ◌+◌, List, [], ◌∷◌, Result, Ok, Err, Bool, true, false, not, ◌&&◌, Option, Some, None, is_some, option_and_then, nat_lt, ◌==◌, if◌then◌else◌}
use Rattle.tenant_slot.specs.declared.slot.TheConstants.{MAX_ENTRIES}
use Rattle.tenant_slot.specs.Prelude.{MAX_EFFORT, Arch, circuit_of, Circuit, BlifFault, packed_of, unfit_of, fit_of, Strip, Fit, Fits, TooManyBlocks, TooManyPads, JobKind, Packing as PackingJob, Placing as PlacingJob, Routing as RoutingJob, Sources, end_value, is_last, KeptPlaces, net_text_of}
use Rattle.tenant_slot.specs.declared.event.Advance.{Advance}
use Rattle.tenant_slot.specs.declared.event.Event.{Event}
use Rattle.tenant_slot.specs.declared.event.Event.TheVariants.{Command as Asked, Advance as Stepped}
use Rattle.tenant_slot.specs.declared.command.Command.{Command}
use Rattle.tenant_slot.specs.declared.command.Command.TheVariants.{Upload, Change, Pack, Place, Route, Cancel, Withdraw, Status, Net, PlaceFile, RouteFile}
use Rattle.tenant_slot.specs.declared.reply.StateName.{StateName}
use Rattle.tenant_slot.specs.declared.reply.StateName.TheVariants.{Empty, Loaded, Packing, Packed, Placing, Placed, Routing, Routed, Unrouted}
use Rattle.tenant_slot.specs.declared.reply.StepReply.TheVariants.{Advanced, Finished, Stale}
use Rattle.tenant_slot.specs.declared.reply.FileKind.TheVariants.{Net as NetFile, Place as PlacesFile, Route as RoutesFile}
use Rattle.tenant_slot.specs.declared.reply.Reply.{Reply}
use Rattle.tenant_slot.specs.declared.reply.Reply.TheVariants.{Accepted, Status as InState, File, Refused, Step}
use Rattle.tenant_slot.specs.declared.reply.Refusal.TheVariants.{WrongState, BadBlif, CannotPack, DoesNotFit, BadEffort}
use Rattle.tenant_slot.specs.declared.reply.Misfit.{Misfit}
use Rattle.tenant_slot.specs.declared.reply.Misfit.TheVariants.{Blocks, Pads}
use Rattle.tenant_slot.specs.declared.failure.RoutingFailure.{RoutingFailure}
use Rattle.tenant_slot.specs.Results.{ending_told, kept_at_end, failure_of, place_file_of, route_file_of}

-- the state of the tenancy, and no more: the circuit, its packing, its places and its routes follow
-- from the text, the kept places, the seed and the effort, and aren't fields. Seed and effort are
-- those of the last accepted `place`, 0 before the first. The steps are those that the running job
-- has made, 0 if none runs
pub record State : Type 0 where
  pub arch : Arch
  pub strip : Strip
  pub name : StateName
  pub text : List ℕ
  pub kept : KeptPlaces  -- the places at which the next placing starts, by kind and name
  pub seed : ℕ
  pub effort : ℕ
  pub ending : Option RoutingFailure  -- how a routing without routes ended, in the state Unrouted
  pub generation : ℕ
  pub steps : ℕ
  pub entries : ℕ

-- a tenancy as it is admitted
abbrev pub start : Arch → Strip → State
start arch strip = record { arch = arch; strip = strip; name = Empty; text = []; kept = []; seed = 0; effort = 0; ending = None; generation = 0; steps = 0; entries = 0 }

-- the kind of the job that runs in a state of that name, if one does
abbrev pub kind_that_runs : StateName → Option JobKind
kind_that_runs Packing = Some PackingJob
kind_that_runs Placing = Some PlacingJob
kind_that_runs Routing = Some RoutingJob
kind_that_runs name = None

-- the name of the state that a job began in, and returns to if it is given up; a placing returns to
-- the packing
abbrev pub at_rest : StateName → StateName
at_rest Packing = Loaded
at_rest Placing = Packed
at_rest Routing = Placed
at_rest name = name

-- exactly these commands are lawful in a state of that name. A state has places if `placefile` is
-- lawful: those of a placing that has ended and wasn't given up
abbrev pub is_lawful : StateName → Command → Bool
is_lawful name Status = true
is_lawful name Cancel = is_some (kind_that_runs name)
is_lawful Empty (Upload text) = true
is_lawful Empty command = false
is_lawful name (Change text) = true
is_lawful name Withdraw = true
is_lawful Loaded Pack = true
is_lawful Packed (Place seed effort) = true
is_lawful Placed (Place seed effort) = true
is_lawful Routed (Place seed effort) = true
is_lawful Unrouted (Place seed effort) = true
is_lawful Placed Route = true
is_lawful Loaded Net = false
is_lawful Packing Net = false
is_lawful name Net = true
is_lawful Placed PlaceFile = true
is_lawful Routing PlaceFile = true
is_lawful Routed PlaceFile = true
is_lawful Unrouted PlaceFile = true
is_lawful Routed RouteFile = true
is_lawful name command = false

-- an event that gives up something requested before begins a new generation. Here and below, what
-- isn't mentioned stays
abbrev pub next_generation : State → State
next_generation state = record state { generation = state.generation + 1; steps = 0 }

-- a netlist is loaded
abbrev pub with_netlist : State → List ℕ → State
with_netlist state text = record state { name = Loaded; text = text; ending = None }

-- a routing ends with routes, or with that failure
abbrev pub routed_unless : State → Option RoutingFailure → State
routed_unless state None = record state { name = Routed; steps = 0 }
routed_unless state (Some failure) = record state { name = Unrouted; ending = Some failure; steps = 0 }

-- what a job of that kind is computed from: a packing has no kept places, no seed and no effort; a
-- routing has those of its placing
abbrev pub sources_from : Arch → Strip → List ℕ → KeptPlaces → ℕ → ℕ → JobKind → Sources
sources_from arch strip text kept seed effort PackingJob = record { kind = PackingJob; arch = arch; strip = strip; text = text; kept = []; seed = 0; effort = 0 }
sources_from arch strip text kept seed effort kind = record { kind = kind; arch = arch; strip = strip; text = text; kept = kept; seed = seed; effort = effort }

abbrev pub sources_of : State → JobKind → Sources
sources_of state kind = sources_from state.arch state.strip state.text state.kept state.seed state.effort kind

-- a change keeps the current places; in a state without places, the places kept before stay
abbrev pub with_kept_places : State → State
with_kept_places state = record state { kept = if is_lawful state.name PlaceFile then kept_at_end (end_value (sources_of state PlacingJob)) else state.kept }

-- a job of that kind has made its last step
abbrev pub state_at_end : State → JobKind → State
state_at_end state PackingJob = record state { name = Packed; steps = 0 }
state_at_end state PlacingJob = record state { name = Placed; steps = 0 }
state_at_end state RoutingJob = routed_unless state (failure_of (end_value (sources_of state RoutingJob)))

-- the circuit of the state's text
abbrev pub circuit_in : State → Result Circuit BlifFault
circuit_in state = circuit_of state.text state.arch.lut_size

-- what follows from a text's circuit; a text with a fault is refused
abbrev pub with_circuit : Result Circuit BlifFault → (Circuit → Option State × Reply) → Option State × Reply
with_circuit (Ok circuit) leads = leads circuit
with_circuit (Err fault) leads = (None, Refused (BadBlif fault))

-- a packing begins; but with a BLE given, the least that fits into no cluster alone, it is refused
abbrev pub pack_unless : State → Option ℕ → Option State × Reply
pack_unless state None = (Some (record (next_generation state) { name = Packing }), Accepted Packing)
pack_unless state (Some ble) = (None, Refused (CannotPack ble))

-- the places of which a strip has too few
abbrev pub misfit_of : Fit → Option Misfit
misfit_of Fits = None
misfit_of (TooManyBlocks have need) = Some (Blocks have need)
misfit_of (TooManyPads have need) = Some (Pads have need)

-- a placing begins; but it is refused if the strip has too few of the given places. Old places and
-- routes are given up, as they belong to the old seed and effort
abbrev pub place_unless : State → ℕ → ℕ → Option Misfit → Option State × Reply
place_unless state seed effort None = (Some (record (next_generation state) { name = Placing; seed = seed; effort = effort; ending = None }), Accepted Placing)
place_unless state seed effort (Some misfit) = (None, Refused (DoesNotFit misfit))

-- the placing of a circuit's packing; an effort above 100 is refused first
abbrev pub place : State → ℕ → ℕ → Circuit → Option State × Reply
place state seed effort circuit = if nat_lt MAX_EFFORT effort then (None, Refused BadEffort) else place_unless state seed effort (misfit_of (fit_of state.strip (packed_of circuit state.arch)))

-- a lawful command: the new state, if it changes, and the reply. `cancel` gives up the running job;
-- `withdraw` gives up everything, so that no place is kept. The files are those of the last placing
-- and of its routing
abbrev pub serve : State → Command → Option State × Reply
serve state (Upload text) = with_circuit (circuit_of text state.arch.lut_size) (λ circuit. (Some (with_netlist state text), Accepted Loaded))
serve state (Change text) = with_circuit (circuit_of text state.arch.lut_size) (λ circuit. (Some (with_netlist (with_kept_places (next_generation state)) text), Accepted Loaded))
serve state Pack = with_circuit (circuit_in state) (λ circuit. pack_unless state (unfit_of circuit state.arch))
serve state (Place seed effort) = with_circuit (circuit_in state) (place state seed effort)
serve state Route = (Some (record (next_generation state) { name = Routing }), Accepted Routing)
serve state Cancel = (Some (record (next_generation state) { name = at_rest state.name }), Accepted (at_rest state.name))
serve state Withdraw = (Some (record (next_generation state) { name = Empty; text = []; kept = []; ending = None }), Accepted Empty)
serve state Status = (None, InState (record { state = state.name; steps = state.steps; ending = option_and_then (ending_told (circuit_in state) state.arch) state.ending }))
serve state Net = with_circuit (circuit_in state) (λ circuit. (None, File NetFile (net_text_of (packed_of circuit state.arch))))
serve state PlaceFile = (None, File PlacesFile (place_file_of (end_value (sources_of state PlacingJob))))
serve state RouteFile = (None, File RoutesFile (route_file_of (end_value (sources_of state PlacingJob)) (end_value (sources_of state RoutingJob))))

-- the step that was made is the next one of the running job: it has the job's generation, the next
-- number, and the job's sources
abbrev pub is_next : State → Advance → Bool
is_next state advance = advance.generation == state.generation && (advance.number == state.steps + 1 && not advance.foreign)

-- the running job makes its next step
abbrev pub go_on : State → JobKind → Option State × Reply
go_on state kind = if is_last (sources_of state kind) (state.steps + 1) then (Some (state_at_end state kind), Step Finished) else (Some (record state { steps = state.steps + 1 }), Step Advanced)

-- a step that was made, while a job of that kind runs
abbrev pub advance : State → Advance → Option JobKind → Option State × Reply
advance state made None = (None, Step Stale)
advance state made (Some kind) = if is_next state made then go_on state kind else (None, Step Stale)

-- an event: the new state, if it changes, and the reply
abbrev pub answer_to : State → Event → Option State × Reply
answer_to state (Asked command) = if is_lawful state.name command then serve state command else (None, Refused (WrongState state.name))
answer_to state (Stepped made) = advance state made (kind_that_runs state.name)

-- the state after the reply is given: one more entry
abbrev pub after_reply : State → Option State → State
after_reply state None = record state { entries = state.entries + 1 }
after_reply state (Some new) = record new { entries = state.entries + 1 }

-- one event: the state after it and its reply. With 65,536 entries the journal is full: nothing
-- changes and there is no reply
abbrev pub step : State → Event → State × Option Reply
step state event = if state.entries == MAX_ENTRIES then (state, None) else (after_reply state (answer_to state event).0, Some (answer_to state event).1)

-- the state after events
abbrev pub state_after : State → List Event → State
state_after state [] = state
state_after state (event ∷ events) = state_after (step state event).0 events

-- the replies to them, in order
abbrev pub replies_to : State → List Event → List (Option Reply)
replies_to state [] = []
replies_to state (event ∷ events) = (step state event).1 ∷ replies_to (step state event).0 events

-- the whole run of one tenancy's events, from its admission: the state at the end, and the replies
abbrev pub run : Arch → Strip → List Event → State × List (Option Reply)
run arch strip events = (state_after (start arch strip) events, replies_to (start arch strip) events)
