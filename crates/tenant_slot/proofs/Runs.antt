-- A run extended by one event.
use Rattle.tenant_slot.proofs.Prelude.{◌≡◌, List, [], ◌∷◌, ◌++◌, ◌+◌, ◌<◌, ◌≢◌, Some, None, eqb, false, refl, ap, ◌∙◌, arith, option_map, nat_tests, Event, Reply, Outcome, slot_after, state_with, SlotState, State, after_reply, answer_to, step, state_after, replies_to}
use Rattle.std.specs.Prelude.{Option}

pub state_after-append : (state : State) (xs ys : List Event) → state_after state (xs ++ ys) ≡ state_after (state_after state xs) ys
state_after-append state [] ys = refl
state_after-append state (x ∷ xs) ys = state_after-append (step state x).0 xs ys

pub replies_to-append : (state : State) (xs ys : List Event) → replies_to state (xs ++ ys) ≡ replies_to state xs ++ replies_to (state_after state xs) ys
replies_to-append state [] ys = refl
replies_to-append state (x ∷ xs) ys = ap (λ rs. (step state x).1 ∷ rs) (replies_to-append (step state x).0 xs ys)

-- a full journal stays as it is
pub step-full : (state : State) (event : Event) → state.entries ≡ 65536 → step state event ≡ (state, None)
step-full state event full = grind (arith, nat_tests)

pub step-room : (state : State) (event : Event) → state.entries ≢ 65536 → step state event ≡ (after_reply state (answer_to state event).0, Some (answer_to state event).1)
step-room state event room = let e : eqb state.entries 65536 ≡ false = grind (arith, nat_tests) in rw e refl

pub step-served : (state : State) (event : Event) (reply : Reply) → (step state event).1 ≡ Some reply → ((step state event).0.entries ≡ state.entries + 1) × (state.entries ≢ 65536)
step-served state event reply told = grind arith

-- an accepted answer is a step
pub step-accepted : (slot : SlotState) (answer : Outcome) (event : Event) → slot.state.entries < 65536 →
    answer_to slot.state event ≡ (option_map (state_with slot.state) answer.change, answer.reply) → step slot.state event ≡ ((slot_after slot answer).state, Some answer.reply)
step-accepted slot answer event room is = step-room slot.state event (omega arith) ∙ ap (λ (p : Option State × Reply). (after_reply slot.state p.0, Some p.1)) is
