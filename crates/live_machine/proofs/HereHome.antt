-- Jobs whose next step no worker has.
use Rattle.live_machine.proofs.Prelude.{◌≡◌, ℕ, true, false, Option, Some, sym, ap, subst, ◌∙◌, arith, IfSome, option_map, is_takeable, takeable_in, History, slot_of, ServiceState, live_of, all_here}
use Rattle.live_machine.proofs.Here.{live_rested, none_before, rested}

-- no worker has the next step of that tenancy's job
abbrev pub IsAtHome : ServiceState → ℕ → Type 0
IsAtHome service id = takeable_in (live_of (all_here service).histories id) ≡ takeable_in (live_of service.histories id)

pub same_home : (old new : ServiceState) (id : ℕ) → new ≡ old → IsAtHome old id → IsAtHome new id
same_home old new id same home = let P : ServiceState → Type 0 = λ s. IsAtHome s id in subst P (sym same) home

-- a step that can be taken
some_busy : (o : Option History) → takeable_in o ≡ true → takeable_in (option_map rested o) ≡ true
some_busy o busy = grind arith

pub busy_home : (service : ServiceState) (id : ℕ) → takeable_in (live_of service.histories id) ≡ true → IsAtHome service id
busy_home service id busy = ap takeable_in (live_rested service.histories id) ∙ (some_busy (live_of service.histories id) busy ∙ sym busy)

-- a tenancy without a job that could make a step
pub idle_home : (service : ServiceState) (id : ℕ) → takeable_in (live_of (all_here service).histories id) ≡ false → IsAtHome service id
idle_home service id idle = idle ∙ sym (none_before (live_of service.histories id) (sym (ap takeable_in (live_rested service.histories id)) ∙ idle))

-- a tenancy that is the same without workers
pub rested_home : (service : ServiceState) (id : ℕ) (h : History) → live_of service.histories id ≡ Some h → rested h ≡ h → IsAtHome service id
rested_home service id h is rests = ap takeable_in (live_rested service.histories id ∙ (ap (option_map rested) is ∙ (ap Some rests ∙ sym is)))

-- a take that finds nothing there finds nothing without workers
none_taken_in : (o : Option History) → IfSome o (λ h. is_takeable (slot_of h) ≡ false) → takeable_in o ≡ false
none_taken_in o none = grind arith

pub none_home : (service : ServiceState) (id : ℕ) → IsAtHome service id → IfSome (live_of service.histories id) (λ h. is_takeable (slot_of h) ≡ false) → takeable_in (live_of (all_here service).histories id) ≡ false
none_home service id home none = home ∙ none_taken_in (live_of service.histories id) none
