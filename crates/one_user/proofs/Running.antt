-- The results of a job's steps, one after another.
use Rattle.one_user.proofs.Prelude.{ℕ, ◌≡◌, ◌+◌, ◌≤◌, false, Option, Some, subst, arith, IsSome, JobKind, State, kind_that_runs, SlotState, StepReply, Advanced, Finished, Finishes, Goes, MakesStep, slot_in, StepMade}

-- the state after `steps` steps
abbrev pub state_after : State → ℕ → State
state_after state steps = record state { steps = steps; entries = state.entries + steps }

module _ (kind : JobKind) (old : SlotState) (steps : ℕ) where
  abbrev pub mid : SlotState
  mid = slot_in old.id (state_after old.state steps)

  -- one more step
  pub steps_more : (made : StepMade) (new : SlotState) → MakesStep kind mid made new → made.reply ≡ Advanced → (new ≡ slot_in old.id (state_after old.state (steps + 1))) × (steps + 1 ≤ 8192)
  steps_more made new makes replied = grind arith

  -- the last step
  pub steps_done : (made : StepMade) (new : SlotState) → MakesStep kind mid made new → made.reply ≡ Finished → Finishes kind old made new
  steps_done made new makes replied = grind arith

-- a slot before its job's first step
pub first_state : (slot : SlotState) → slot.here ≡ Some false → slot.state.steps ≡ 0 → slot ≡ slot_in slot.id (state_after slot.state 0)
first_state slot here none = grind arith

-- a step that isn't the last
advanced_by : (kind : JobKind) (old new : SlotState) (reply : StepReply) → Goes kind old reply new → (reply ≡ Finished → ⊥) → reply ≡ Advanced
advanced_by kind old new reply goes not = grind arith

running_kind : (kind : Option JobKind) → IsSome kind → (k : JobKind) × (kind ≡ Some k)
running_kind kind is = grind arith

-- the job advances by a step
pub step_goes_on : (old now new : SlotState) (steps : ℕ) (made : StepMade) → IsSome (kind_that_runs old.state.name) → now ≡ slot_in old.id (state_after old.state steps) →
    ((kind : JobKind) → kind_that_runs now.state.name ≡ Some kind → MakesStep kind now made new) → (made.reply ≡ Finished → ⊥) → (new ≡ slot_in old.id (state_after old.state (steps + 1))) × (steps + 1 ≤ 8192)
step_goes_on old now new steps made runs is makes not =
    let kind = running_kind (kind_that_runs old.state.name) runs in
    let here = subst (λ (s : SlotState). (kind : JobKind) → kind_that_runs s.state.name ≡ Some kind → MakesStep kind s made new) is makes kind.0 kind.1 in
    steps_more kind.0 old steps made new here (advanced_by kind.0 (slot_in old.id (state_after old.state steps)) new made.reply here.goes not)

-- the job ends with a step
pub step_ends : (old now new : SlotState) (steps : ℕ) (made : StepMade) → now ≡ slot_in old.id (state_after old.state steps) →
    ((kind : JobKind) → kind_that_runs now.state.name ≡ Some kind → MakesStep kind now made new) → made.reply ≡ Finished → (kind : JobKind) → kind_that_runs old.state.name ≡ Some kind → Finishes kind old made new
step_ends old now new steps made is makes replied kind runs =
    steps_done kind old steps made new (subst (λ (s : SlotState). (kind : JobKind) → kind_that_runs s.state.name ≡ Some kind → MakesStep kind s made new) is makes kind runs) replied
