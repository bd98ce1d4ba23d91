-- How a routing ends, and the reply to that.
use Rattle.one_user.proofs.Prelude.{ℕ, ◌≡◌, ◌+◌, true, List, [], Result, Ok, Option, Some, None, refl, sym, ap, subst, arith, IsSome, is_some, option_and_then, resources_of, ResourceUse, routed_set, circuit_of, Circuit, BlifFault, packed_of, end_value, failure_of, place_file_of, route_file_of, State, answer_to, circuit_in, routed_unless, with_circuit, PlaceFile, RouteFile, Command as Asked, RoutingFailure, Ending, File, Routing, net_text_of, Task, by_routing, files_of, outcome_of, placing_of, routing_of, AreTold, HasRouted, IsLeft, IsLoaded, IsPlaced, slot_in, state_at, task_in, text_in, Files, FlowOutcome, Refused, Unrouted}
use Rattle.tenant_slot.specs.declared.reply.StateName.TheVariants.{Unrouted as UnroutedName}
use Rattle.std.specs.Prelude.{IfOk}
use Rattle.tenant_slot.specs.declared.command.Command.TheVariants.{Net}
use Rattle.tenant_slot.specs.declared.reply.FileKind.TheVariants.{Net as NetFile, Place as PlacesFile, Route as RoutesFile}
use Rattle.tenant_slot.specs.declared.reply.StateName.TheVariants.{Routed as RoutedName}
use Rattle.one_user.specs.declared.outcome.Unrouted.{Unrouted as Left}
use Rattle.one_user.specs.declared.outcome.FlowOutcome.TheVariants.{Routed}

-- the outcome of a placed netlist, by how its routing ends
pub outcome_is : (task : Task) (placed : IsPlaced task) (failure : Option RoutingFailure) → failure_of (end_value (routing_of task)) ≡ failure → outcome_of task ≡ by_routing task placed.circuit failure
outcome_is task placed failure is = grind arith

-- a state of a routed netlist, in the definition's field order
abbrev pub state_of : Task → State → State
state_of task state = record state { name = RoutedName; arch = task.arch; strip = task.strip; text = task.text; kept = []; seed = task.seed; effort = task.effort }

state_is : (task : Task) (state : State) → HasRouted task state → state ≡ state_of task state
state_is task state has = rw (← has.name, ← has.arch, ← has.strip, ← has.text, ← has.kept, ← has.seed, ← has.effort) refl

-- the files of a state of a routed netlist
net_told : (task : Task) (state : State) (circuit : Circuit) → circuit_of task.text task.arch.lut_size ≡ Ok circuit → answer_to (state_of task state) (Asked Net) ≡ (None, File NetFile (net_text_of (packed_of circuit task.arch)))
net_told task state circuit said = ap (λ (r : Result Circuit BlifFault). with_circuit r (λ circuit. (None, File NetFile (net_text_of (packed_of circuit task.arch))))) said

pub same_told : (task : Task) (files : Files) (state : State) → outcome_of task ≡ Routed files → HasRouted task state → AreTold files state
same_told task files state is has = grind arith

-- a state after the last step of a routing
module _ (task : Task) (placed : IsPlaced task) (generation entries count : ℕ) where
  abbrev before : State
  before = state_at task Routing task.seed task.effort generation entries

  abbrev pub after_end : Option RoutingFailure → State
  after_end failure = record (routed_unless before failure) { entries = count }

  -- it is routed exactly if there is no failure
  pub none_failed : (failure : Option RoutingFailure) → (after_end failure).name ≡ RoutedName → failure ≡ None
  none_failed failure is = grind arith

  pub has_routed : (failure : Option RoutingFailure) → failure ≡ None → HasRouted task (after_end failure)
  has_routed failure is = grind arith

  net_is : (failure : RoutingFailure) → text_in (answer_to (after_end (Some failure)) (Asked Net)).1 ≡ Some (net_text_of (packed_of placed.circuit task.arch))
  net_is failure = ap (λ (r : Result Circuit BlifFault). text_in (with_circuit r (λ circuit. (None, File NetFile (net_text_of (packed_of circuit task.arch))))).1) placed.said

  pub left_is : (failure : Option RoutingFailure) → failure_of (end_value (routing_of task)) ≡ failure → ((after_end failure).name ≡ RoutedName → ⊥) →
      (left : Left) × IsLeft (after_end failure) left × (outcome_of task ≡ Unrouted left)
  left_is None is not = absurd (not refl)
  left_is (Some failure) is not = grind (arith, outcome_is task placed (Some failure) is)

-- the task made of a routed state's parts is the given one
pub routed_own : (task : Task) (state : State) → HasRouted task state → task_in state state.seed state.effort ≡ task
routed_own task state has = ap (λ (s : State). task_in s s.seed s.effort) (state_is task state has)

pub routed_loaded : (task : Task) (placed : IsPlaced task) (state : State) → HasRouted task state → IsLoaded (task_in state state.seed state.effort)
routed_loaded task placed state has = subst IsLoaded (sym (routed_own task state has)) (record { circuit = placed.circuit; said = placed.said })

pub routed_files : (task : Task) (placed : IsPlaced task) (state : State) (files : Files) → HasRouted task state → failure_of (end_value (routing_of task)) ≡ None →
    IfOk (circuit_in state) (λ circuit. files ≡ files_of (task_in state state.seed state.effort) circuit) → Routed files ≡ outcome_of task
routed_files task placed state files has none told = grind arith

-- what its circuit occupies
pub routed_held : (task : Task) (state : State) → HasRouted task state → routed_set state ≡ resources_of (routing_of task)
unfolding routed_set
routed_held task state has = ap routed_set (state_is task state has)

-- an ending in a status is there, and a text in a reply
pub some_ending : (told : Option Ending) (ending : Ending) → told ≡ Some ending → IsSome told
some_ending told ending is = ap is_some is

pub some_text : (told : Option (List ℕ)) (text : List ℕ) → told ≡ Some text → IsSome told
some_text told text is = ap is_some is

-- a state has only one such answer
pub same_left : (task : Task) (state : State) (left other : Left) → IsLeft state left → IsLeft state other → outcome_of task ≡ Unrouted left → Unrouted other ≡ outcome_of task
same_left task state left other is so outcome = grind arith

-- a share with these fields
pub share_of : (used other there at : ℕ) (share : ResourceUse) → share ≡ record { used = used; there = there } → used ≡ other → there ≡ at → share ≡ record { used = other; there = at }
share_of used other there at share is same so = grind arith
