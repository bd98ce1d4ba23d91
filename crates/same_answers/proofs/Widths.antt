-- A live tenancy stays live, in a strip of the same width, unless it is evicted.
use Rattle.same_answers.proofs.Prelude.{◌≡◌, ◌≢◌, ℕ, List, [], ◌∷◌, ◌++◌, true, false, Option, Some, None, refl, sym, subst, arith, ⊤, if◌then◌else◌, option_map, JobState, History, closed_history, if_live, Call, Happens, Run, IsGivenBackTo, ServiceState, live_width, with_changed, history_of-modified, history_of-past, history_of-push, AreSteady, Steady}
use Rattle.service_core.specs.Run.Call.{Evict}

abbrev pub HasWidth : ℕ → ℕ → ServiceState → Type 0
HasWidth id width state = live_width state.histories id ≡ Some width

-- a call that doesn't evict the tenancy
abbrev pub Spares : ℕ → Call → Type 0
Spares id (Evict t answer) = t ≢ id
Spares id call = ⊤

abbrev pub AreSparing : ℕ → List Call → Type 0
AreSparing id [] = ⊤
AreSparing id (call ∷ calls) = Spares id call × AreSparing id calls

-- the width of a live tenancy
abbrev pub width_in : Option History → Option ℕ
width_in o = option_map (λ h. h.strip.width) (if_live o)

width_some : (g : History) → width_in (Some g) ≡ (if g.live then Some g.strip.width else None)
width_some g = elim g.live as (λ b. option_map (λ (h : History). h.strip.width) (if b then Some g else None) ≡ (if b then Some g.strip.width else None)) [ true ↦ refl | false ↦ refl ]

-- a change that keeps a tenancy's width and keeps it live
abbrev KeepsWidth : (History → History) → Type 0
KeepsWidth change = (h : History) → ((change h).live ≡ h.live) × ((change h).strip ≡ h.strip)

same_width : (change : History → History) → KeepsWidth change → (o : Option History) → width_in (option_map change o) ≡ width_in o
same_width change keeps o = grind arith

width_changed : (hs : List History) (t id width : ℕ) (change : History → History) → KeepsWidth change → live_width hs id ≡ Some width → live_width (with_changed hs t change) id ≡ Some width
width_changed hs t id width change keeps was = grind (arith, history_of-modified)

width_of_other : (hs : List History) (t id width : ℕ) → t ≢ id → live_width hs id ≡ Some width → live_width (with_changed hs t closed_history) id ≡ Some width
width_of_other hs t id width differ was = grind (arith, history_of-modified)

width_pushed : (hs : List History) (h : History) (id width : ℕ) → live_width hs id ≡ Some width → live_width (hs ++ h ∷ []) id ≡ Some width
width_pushed hs h id width was = grind (arith, history_of-past, history_of-push)

same : (id width : ℕ) (old new : ServiceState) → new ≡ old → HasWidth id width old → HasWidth id width new
same id width old new is was = let P : ServiceState → Type 0 = λ s. HasWidth id width s in subst P (sym is) was

changed : (id width t : ℕ) (old new : ServiceState) (change : History → History) → KeepsWidth change → new ≡ record old { histories = with_changed old.histories t change } → HasWidth id width old → HasWidth id width new
changed id width t old new change keeps is was = let P : ServiceState → Type 0 = λ s. HasWidth id width s in subst P (sym is) (width_changed old.histories t id width change keeps was)

given_back : (id width : ℕ) (o : Option History) (old new : ServiceState) (job : JobState) → IsGivenBackTo o old job new → HasWidth id width old → HasWidth id width new
given_back id width o old new job is was = grind (arith, changed)

after_call : (id width : ℕ) (old : ServiceState) (call : Call) (new : ServiceState) → Spares id call → Happens old call new → HasWidth id width old → HasWidth id width new
after_call id width old call new spares is was = search (width_pushed, width_of_other, changed, arith)

pub after_calls : (id width : ℕ) (old : ServiceState) (calls : List Call) (new : ServiceState) → AreSparing id calls → Run old calls new → HasWidth id width old → HasWidth id width new
after_calls id width old [] new are run was = same id width old new run was
after_calls id width old (call ∷ calls) new are run was = after_calls id width run.0 calls new are.1 run.2 (after_call id width old call run.0 are.0 run.1 was)

-- calls that admit and evict nobody
steady_spares : (id : ℕ) (call : Call) → Steady call → Spares id call
steady_spares id call is = grind arith

pub steady_sparing : (id : ℕ) (calls : List Call) → AreSteady calls → AreSparing id calls
steady_sparing id [] are = tt
steady_sparing id (call ∷ calls) are = (steady_spares id call are.0, steady_sparing id calls are.1)
