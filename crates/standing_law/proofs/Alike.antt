-- States that stand alike have alike answers.
use Rattle.std.proofs.Common.{◌≡◌, ℕ, Bool, true, false, eqb, List, [], ◌∷◌, Option, Some, None, refl, ap, ◌∙◌, subst, arith}
use Rattle.std.specs.Prelude.{⊤, if◌then◌else◌}
use Rattle.tenant_slot.specs.declared.command.Command.{Command}
use Rattle.tenant_slot.specs.declared.command.Command.TheVariants.{Withdraw, PlaceFile, RouteFile}
use Rattle.tenant_slot.specs.declared.event.Advance.{Advance}
use Rattle.tenant_slot.specs.declared.event.Event.{Event}
use Rattle.tenant_slot.specs.declared.event.Event.TheVariants.{Command as Asked, Advance as Stepped}
use Rattle.tenant_slot.specs.declared.reply.Reply.{Reply}
use Rattle.tenant_slot.specs.declared.reply.StateName.{StateName}
use Rattle.tenant_slot.specs.SingleUser.{State, after_reply, answer_to, is_lawful, is_next, replies_to, serve, start, state_after, step}
use Rattle.tenant_slot.proofs.Runs.{step-room}
use Rattle.standing_law.specs.Standing.{AreSame, ChangesNothing, HasRoom, IsSame, StandAlike, Withdraws, has_seed}

abbrev Answer : Type 0
Answer = Option State × Reply

-- what changes is alike
abbrev ChangesAlike : Option State → Option State → Type 0
ChangesAlike None None = ⊤
ChangesAlike None (Some v) = ⊥
ChangesAlike (Some u) None = ⊥
ChangesAlike (Some u) (Some v) = StandAlike u v

abbrev AnswersAlike : Answer → Answer → Type 0
AnswersAlike a b = ChangesAlike a.0 b.0 × (a.1 ≡ b.1)

-- a state with other numbers
abbrev numbered : State → ℕ → ℕ → State
numbered t g n = record t { generation = g; entries = n }

-- and with another seed and effort
abbrev seeded : State → ℕ → ℕ → ℕ → ℕ → State
seeded t seed effort g n = record t { seed = seed; effort = effort; generation = g; entries = n }

pub alike_self : (s : State) → StandAlike s s
alike_self s = record { rest = refl; seeds = λ h. (refl, refl) }

-- a state whose seed counts

serve-numbered : (t : State) (g n : ℕ) (command : Command) → AnswersAlike (serve (numbered t g n) command) (serve t command)
serve-numbered t g n command = grind arith

-- a state whose seed doesn't count

-- what is lawful in such a state
no_places : (name : StateName) → has_seed name ≡ false → is_lawful name PlaceFile ≡ false
no_places name none = grind arith

no_routes : (name : StateName) → has_seed name ≡ false → is_lawful name RouteFile ≡ false
no_routes name none = grind arith

serve-seeded : (t : State) (d e g n : ℕ) (command : Command) → has_seed t.name ≡ false → is_lawful t.name command ≡ true → AnswersAlike (serve (seeded t d e g n) command) (serve t command)
serve-seeded t d e g n command none lawful = grind arith

-- a state that stands as another one is that one with other numbers, and maybe another seed

abbrev Holds : (State → Type 0) → State → Type 0
Holds P t = ((g n : ℕ) → P (numbered t g n)) × ((d e g n : ℕ) → has_seed t.name ≡ false → P (seeded t d e g n))

-- a command

asked-alike : (s t : State) (command : Command) → StandAlike s t → AnswersAlike (answer_to s (Asked command)) (answer_to t (Asked command))
asked-alike s t command alike = grind (arith, serve-numbered, serve-seeded)

-- a step

stepped-alike : (s t : State) (made other : Advance) → StandAlike s t → is_next s made ≡ true → is_next t other ≡ true → AnswersAlike (answer_to s (Stepped made)) (answer_to t (Stepped other))
stepped-alike s t made other alike = search arith

-- an event

answers-alike : (s t : State) (event other : Event) → StandAlike s t → IsSame s event t other → AnswersAlike (answer_to s event) (answer_to t other)
answers-alike s t (Asked command) (Asked again) alike is = subst (λ c. AnswersAlike (answer_to s (Asked command)) (answer_to t (Asked c))) is (asked-alike s t command alike)
answers-alike s t (Asked command) (Stepped made) alike is = absurd is
answers-alike s t (Stepped made) (Asked command) alike is = absurd is
answers-alike s t (Stepped made) (Stepped other) alike is = stepped-alike s t made other alike is.0 is.1

after-alike : (s t : State) (a b : Option State) → StandAlike s t → ChangesAlike a b → StandAlike (after_reply s a) (after_reply t b)
after-alike s t a b alike change = grind arith

step-alike : (s t : State) (event other : Event) → StandAlike s t → IsSame s event t other → HasRoom s → HasRoom t → StandAlike (step s event).0 (step t other).0 × ((step s event).1 ≡ (step t other).1)
step-alike s t event other alike is room space = grind (arith, step-room, answers-alike, after-alike)

-- all events
pub goes_on : (s t : State) (one other : List Event) → StandAlike s t → AreSame s one t other → (replies_to s one ≡ replies_to t other) × StandAlike (state_after s one) (state_after t other)
goes_on s t [] [] alike are = (refl, alike)
goes_on s t [] (f ∷ others) alike are = absurd are
goes_on s t (e ∷ events) [] alike are = absurd are
goes_on s t (e ∷ events) (f ∷ others) alike are =
    let first = step-alike s t e f alike are.0 are.1 are.2 in
    let rest = goes_on (step s e).0 (step t f).0 events others first.0 are.3 in
    (ap (λ r. r ∷ replies_to (step s e).0 events) first.1 ∙ ap (λ rs. (step t f).1 ∷ rs) rest.0, rest.1)

-- an event that changes nothing
abbrev StepIf : State → Event → Bool → State × Option Reply
StepIf s event full = if full then (s, None) else (after_reply s (answer_to s event).0, Some (answer_to s event).1)

left-if : (full : Bool) (s t : State) (event : Event) → StandAlike s t → ChangesNothing s event → StandAlike (StepIf s event full).0 t
left-if full s t event alike nothing = grind arith

pub left_out : (s t : State) (event : Event) → StandAlike s t → ChangesNothing s event → StandAlike (step s event).0 t
left_out s t event alike nothing = left-if (eqb s.entries 65536) s t event alike nothing

pub withdrawn : (s : State) → Withdraws s → HasRoom s → StandAlike (step s (Asked Withdraw)).0 (start s.arch s.strip)
withdrawn s lawful room = grind arith
