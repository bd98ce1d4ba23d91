-- Which jobs run, wherever their next steps are.
use Rattle.live_machine.proofs.Prelude.{◌≡◌, ℕ, ◌-◌, List, [], ◌∷◌, length, Bool, true, false, ◌&&◌, cond, eqb, Option, Some, None, refl, ap, subst, ◌∙◌, arith, ◌↔◌, nat_lt, option_and_then, option_map, beq, AllByRecursion, recursion_from_All, MAX_ENTRIES, kind_that_runs, Device, takeable_in, History, state_of, AreAlone, IsAloneOn, ServiceState, history_of, live_of, last_id, LiveState, IsHome, all_here, runs_in}
use Rattle.std.specs.Prelude.{is_some}
use Rattle.live_machine.proofs.Here.{live_rested, rested}

alone_at : (device : Device) (hs : List History) (id : ℕ) (h : History) → AllByRecursion (IsAloneOn device) hs → history_of hs id ≡ Some h → IsAloneOn device h
alone_at device [] id h all is = absurd (cc)
alone_at device (x ∷ hs) id h all is =
    elim (eqb id 1) as (λ b. cond b (Some x) (history_of hs (id - 1)) ≡ Some h → IsAloneOn device h) [
      | true ↦ λ e. let same : x ≡ h = cc in subst (IsAloneOn device) same all.0
      | false ↦ λ e. alone_at device hs (id - 1) h all.1 e
    ] is

lives : (o : Option History) (h : History) → option_and_then (λ (x : History). cond x.live (Some x) None) o ≡ Some h → o ≡ Some h
lives o h is = grind arith

-- a tenancy's state has as many entries as its journal
counted : (service : ServiceState) (id : ℕ) (h : History) → AreAlone service → live_of service.histories id ≡ Some h → (state_of h).entries ≡ length h.entries
counted service id h alone is = grind (arith, alone_at service.device service.histories id h (recursion_from_All (IsAloneOn service.device) service.histories alone) (lives (history_of service.histories id) h is))

pub runs_here : (service : ServiceState) (id : ℕ) → AreAlone service → takeable_in (live_of (all_here service).histories id) ≡ runs_in (live_of service.histories id)
runs_here service id alone = ap takeable_in (live_rested service.histories id) ∙ by_live (live_of service.histories id) refl
  where
    by_live : (o : Option History) → live_of service.histories id ≡ o → takeable_in (option_map rested o) ≡ runs_in o
    by_live None is = refl
    by_live (Some h) is = ap (λ n. is_some (kind_that_runs (state_of h).name) && nat_lt n MAX_ENTRIES) (counted service id h alone is)

same_test : (a b : Bool) → (beq a b ≡ true) ↔ (a ≡ b)
same_test a b = grind arith

-- whether a name's job is at home, as the core says
pub home_by : (live : LiveState) (name : List ℕ) (core : ServiceState) (id : ℕ) (runs takes : Bool) → core ≡ live.stage.service → id ≡ last_id live.stage.names name → AreAlone core →
    runs ≡ runs_in (live_of core.histories id) → takes ≡ takeable_in (live_of core.histories id) → (beq runs takes ≡ true) ↔ IsHome live name
home_by live name core id runs takes same own alone runs_is takes_is = grind (arith, runs_here)
