-- How an event changes what a tenancy occupies of its strip.
use Rattle.service_core.proofs.Prelude.{◌≡◌, ℕ, List, [], ◌∷◌, Result, true, Option, Some, None, refl, ap, ◌∙◌, arith, ⊤, is_some, Arch, Strip, Circuit, BlifFault, Advance, Event, Command as Asked, Reply, Accepted, Step, StateName, Empty, StepReply, Advanced, Finished, Stale, held_in, routed_set, State, after_reply, answer_to, at_rest, is_lawful, kind_that_runs, serve, start, state_after, step, net, pack, placing}
use Rattle.std.specs.Prelude.{◌+◌}
use Rattle.tenant_slot.specs.declared.command.Command.{Command}
use Rattle.tenant_slot.specs.declared.event.Event.TheVariants.{Advance as Stepped}

-- a state of that name occupies nothing
nothing_in : (state : State) (name : StateName) → state.name ≡ name → held_in name state ≡ [] → routed_set state ≡ []
unfolding routed_set
nothing_in state name is nothing = ap (λ n. held_in n state) is ∙ nothing

-- nor does the state to which a job that is given up returns
rest_holds : (name : StateName) (state : State) → is_some (kind_that_runs name) ≡ true → held_in (at_rest name) state ≡ []
rest_holds name state runs = grind arith

-- the number of entries doesn't matter
entries_in : (name : StateName) (state : State) (entries : ℕ) → held_in name (record state { entries = entries }) ≡ held_in name state
entries_in name state entries = grind arith

entries_hold : (state : State) (entries : ℕ) → routed_set (record state { entries = entries }) ≡ routed_set state
unfolding routed_set
entries_hold state entries = entries_in state.name state entries

after_none : (state : State) → routed_set (after_reply state None) ≡ routed_set state
after_none state = entries_hold state (state.entries + 1)

after_some : (state new : State) → routed_set (after_reply state (Some new)) ≡ routed_set new
after_some state new = entries_hold new (state.entries + 1)

-- on the same strip
pub record IsOnStrip (arch : Arch) (strip : Strip) (state : State) : Type 0 where
  pub arch_is : state.arch ≡ arch
  pub strip_is : state.strip ≡ strip

-- what a command changes, if it changes anything
abbrev OnlyAccepted : State → Option State → Reply → Type 0
OnlyAccepted state None (Accepted name) = ⊥
OnlyAccepted state None reply = ⊤
OnlyAccepted state (Some new) (Accepted name) = IsOnStrip state.arch state.strip new × (routed_set new ≡ [])
OnlyAccepted state (Some new) reply = ⊥

abbrev Answered : State → Option State × Reply → Type 0
Answered state answer = OnlyAccepted state answer.0 answer.1

pack_changes : (state : State) (circuit : Result Circuit BlifFault) → Answered state (pack state circuit)
pack_changes state circuit = grind (arith, nothing_in)

place_changes : (state : State) (seed effort : ℕ) (circuit : Result Circuit BlifFault) → Answered state (placing state seed effort circuit)
place_changes state seed effort circuit = grind (arith, nothing_in)

net_changes : (state : State) (circuit : Result Circuit BlifFault) → Answered state (net state circuit)
net_changes state circuit = grind arith

serve_changes : (state : State) (command : Command) → is_lawful state.name command ≡ true → Answered state (serve state command)
serve_changes state command lawful = grind (arith, pack_changes, place_changes, nothing_in, rest_holds, net_changes)

command_changes : (state : State) (command : Command) → Answered state (answer_to state (Asked command))
command_changes state command = grind (arith, serve_changes)

-- what a step changes
abbrev StepChanges : State → Option State → Reply → Type 0
StepChanges state None (Step Stale) = ⊤
StepChanges state (Some new) (Step Advanced) = IsOnStrip state.arch state.strip new × (routed_set new ≡ routed_set state)
StepChanges state (Some new) (Step Finished) = IsOnStrip state.arch state.strip new × (routed_set state ≡ [])
StepChanges state change reply = ⊥

abbrev Stepping : State → Option State × Reply → Type 0
Stepping state answer = StepChanges state answer.0 answer.1

step_changes : (state : State) (made : Advance) → Stepping state (answer_to state (Stepped made))
step_changes state made = search (nothing_in, arith)

-- after a command a tenancy occupies nothing, or what it occupied before
abbrev pub HeldAfter : State → State → Reply → Type 0
HeldAfter old new (Accepted name) = routed_set new ≡ []
HeldAfter old new reply = routed_set new ≡ routed_set old

held_after : (state : State) (change : Option State) (reply : Reply) → OnlyAccepted state change reply → HeldAfter state (after_reply state change) reply
held_after state change reply is = grind (arith, after_some)

-- an event that has a reply
record Gives (state : State) (event : Event) (told : Reply) : Type 0 where
  reply : (answer_to state event).1 ≡ told
  state_is : (step state event).0 ≡ after_reply state (answer_to state event).0

gives : (state : State) (event : Event) (reply : Reply) → (step state event).1 ≡ Some reply → Gives state event reply
gives state event reply told = search arith

pub command_held : (state : State) (command : Command) (reply : Reply) → (step state (Asked command)).1 ≡ Some reply → HeldAfter state (step state (Asked command)).0 reply
command_held state command reply told = grind (arith, held_after, command_changes)

-- after a step it occupies what it did before, unless that was nothing and its job is finished
abbrev pub StepHeld : State → State → StepReply → Type 0
StepHeld old new Finished = routed_set old ≡ []
StepHeld old new reply = routed_set new ≡ routed_set old

step_held_after : (state : State) (change : Option State) (told : Reply) (reply : StepReply) → told ≡ Step reply → StepChanges state change told → StepHeld state (after_reply state change) reply
step_held_after state change told reply is changes = grind (arith, after_some)

pub step_held : (state : State) (made : Advance) (reply : StepReply) → (step state (Stepped made)).1 ≡ Some (Step reply) → StepHeld state (step state (Stepped made)).0 reply
step_held state made reply told = grind (arith, step_held_after, step_changes)

-- no event changes the architecture and the strip of a tenancy
abbrev Stays : State → Option State → Type 0
Stays state None = ⊤
Stays state (Some new) = IsOnStrip state.arch state.strip new

answer_stays : (state : State) (event : Event) → Stays state (answer_to state event).0
answer_stays state event = search arith

event_stays : (state : State) (event : Event) → IsOnStrip state.arch state.strip (step state event).0
event_stays state event = grind (arith, answer_stays)

pub events_stay : (state : State) (events : List Event) → IsOnStrip state.arch state.strip (state_after state events)
events_stay state [] = record { arch_is = refl; strip_is = refl }
events_stay state (event ∷ events) = grind (arith, event_stays, events_stay (step state event).0 events)

-- a tenancy occupies nothing at its admission
pub start_holds : (arch : Arch) (strip : Strip) → routed_set (start arch strip) ≡ []
start_holds arch strip = nothing_in (start arch strip) Empty refl refl
