-- The calls that make steps change no strip's width.
use Rattle.sessions.proofs.Prelude.{◌≡◌, ◌∙◌, ℕ, List, [], ◌∷◌, ◌++◌, true, false, Option, Some, None, suc, refl, ap, arith, All, ⊤, option_map, if◌then◌else◌, flat_map, JobState, History, if_live, Call, Happens, Run, IsGivenBackTo, Take, Put, GiveBack, ServiceState, live_width, with_changed, history_of-modified, StepOutcome, Recorded, MadeStep, MakesStep, StepsAndPuts, Waits}

-- a call that makes steps
abbrev pub IsStepping : Call → Type 0
IsStepping (Take t answer) = ⊤
IsStepping (Put done foreign answer) = ⊤
IsStepping (GiveBack job) = ⊤
IsStepping call = ⊥

abbrev pub AreStepping : List Call → Type 0
AreStepping [] = ⊤
AreStepping (call ∷ calls) = IsStepping call × AreStepping calls

-- a step is made by such calls, and so are the steps of a wait
to_stepping : (calls these : List Call) → calls ≡ these → AreStepping these → AreStepping calls
to_stepping calls these is are = rw is are

AreStepping-append : (xs ys : List Call) → AreStepping xs → AreStepping ys → AreStepping (xs ++ ys)
AreStepping-append [] ys a b = b
AreStepping-append (x ∷ xs) ys a b = (a.0, AreStepping-append xs ys a.1 b)

puts_stepping : (job : JobState) (calls : List Call) (outcome : StepOutcome) → StepsAndPuts job calls outcome → AreStepping calls
puts_stepping job calls outcome is = grind arith

taking : (id : ℕ) (job : JobState) (calls more : List Call) (outcome : StepOutcome) → StepsAndPuts job more outcome → calls ≡ Take id (Some job) ∷ more → AreStepping calls
taking id job calls more outcome puts is = to_stepping calls _ is (tt, puts_stepping job more outcome puts)

step_stepping : (id : ℕ) (calls : List Call) (outcome : StepOutcome) → MakesStep id calls outcome → AreStepping calls
step_stepping id calls outcome is = grind arith

made_stepping : (id : ℕ) (made : List MadeStep) → All (λ (m : MadeStep). MakesStep id m.0 (Recorded m.1)) made → AreStepping (flat_map (λ (m : MadeStep). m.0) made)
made_stepping id [] all = tt
made_stepping id (m ∷ ms) all = AreStepping-append m.0 _ (step_stepping id m.0 (Recorded m.1) (all 0 m (omega arith))) (made_stepping id ms (λ k d within. all (suc k) d (omega arith)))

pub wait_stepping : (id : ℕ) (calls : List Call) (last : StepOutcome) → Waits id calls last → AreStepping calls
wait_stepping id calls last is = to_stepping calls _ is.5 (AreStepping-append _ is.1 (made_stepping id is.0 is.2) (step_stepping id is.1 last is.3))

-- the width of a live tenancy
abbrev pub width_in : Option History → Option ℕ
width_in o = option_map (λ h. h.strip.width) (if_live o)

width_some : (g : History) → width_in (Some g) ≡ (if g.live then Some g.strip.width else None)
width_some g = elim g.live as (λ b. option_map (λ (h : History). h.strip.width) (if b then Some g else None) ≡ (if b then Some g.strip.width else None)) [ true ↦ refl | false ↦ refl ]

-- a change that keeps a tenancy's width and keeps it live
abbrev pub KeepsWidth : (History → History) → Type 0
KeepsWidth change = (h : History) → ((change h).live ≡ h.live) × ((change h).strip ≡ h.strip)

pub same_width : (change : History → History) → KeepsWidth change → (o : Option History) → width_in (option_map change o) ≡ width_in o
same_width change keeps o = grind arith

width_kept : (hs : List History) (t id : ℕ) (change : History → History) → KeepsWidth change → live_width (with_changed hs t change) id ≡ live_width hs id
width_kept hs t id change keeps = grind (arith, history_of-modified)

-- they change no width
abbrev SameWidth : ℕ → ServiceState → ServiceState → Type 0
SameWidth id old new = live_width new.histories id ≡ live_width old.histories id

unchanged : (id : ℕ) (old new : ServiceState) → new ≡ old → SameWidth id old new
unchanged id old new same = ap (λ (s : ServiceState). live_width s.histories id) same

changed : (id t : ℕ) (old new : ServiceState) (change : History → History) → KeepsWidth change → new ≡ record old { histories = with_changed old.histories t change } → SameWidth id old new
changed id t old new change keeps is = ap (λ (s : ServiceState). live_width s.histories id) is ∙ width_kept old.histories t id change keeps

given_back : (id : ℕ) (o : Option History) (old new : ServiceState) (job : JobState) → IsGivenBackTo o old job new → SameWidth id old new
given_back id o old new job is = grind (arith, changed)

stepping_width : (id : ℕ) (old : ServiceState) (call : Call) (new : ServiceState) → IsStepping call → Happens old call new → SameWidth id old new
stepping_width id old call new steps is = grind (arith, changed)

pub steps_width : (id : ℕ) (old : ServiceState) (calls : List Call) (new : ServiceState) → AreStepping calls → Run old calls new → SameWidth id old new
steps_width id old [] new are run = unchanged id old new run
steps_width id old (call ∷ calls) new are run = steps_width id run.0 calls new are.1 run.2 ∙ stepping_width id old call run.0 are.0 run.1
