-- A cluster that becomes full with its last member.
use Rattle.ble_cluster.proofs.Prelude.{◌≡◌, ℕ, suc, ◌+◌, ◌<◌, ◌≤◌, Bool, true, false, if◌then◌else◌, List, [], ◌∷◌, ◌++◌, All, None, Some, length, refl, sym, ap, ◌∙◌, arith, length-append, option_to_list, All-nil, All-cons, All-append, Arch, LogicElement, cluster_of, first_most, members_after, input_count_at, next_member, free_in}
use Rattle.ble_cluster.proofs.Choosing.{grown_full}
use Rattle.ble_cluster.proofs.ChoosingLemmas.{next_none}
use Rattle.ble_cluster.proofs.Fitting.{cluster_is}
use Rattle.ble_cluster.proofs.Untouched.{full_refuses}

module _ (arch : Arch) (elements : List LogicElement) (taken : List Bool) (marks : length taken ≡ length elements) where
  none_joins : (members : List ℕ) → arch.cluster_size ≤ length members → next_member arch elements (free_in taken) members ≡ None
  none_joins members full = next_none arch elements taken members marks (λ other small. full_refuses arch elements taken members other full)

  -- a full cluster no longer changes
  pub full_stays : (members : List ℕ) (additions : ℕ) → arch.cluster_size ≤ length members → members_after arch elements (free_in taken) members additions ≡ members
  full_stays members additions full = grown_full arch elements (free_in taken) members 0 additions (omega arith) (none_joins members full)

  -- the last member
  pub filled : (seed members : List ℕ) (number added : ℕ) → members ≡ members_after arch elements (free_in taken) seed added → Some number ≡ next_member arch elements (free_in taken) members → length members + 1 ≡ arch.cluster_size → added < arch.cluster_size → members ++ number ∷ [] ≡ members_after arch elements (free_in taken) seed arch.cluster_size
  filled seed members number added is next last within =
      let free = free_in taken in
      let one : members_after arch elements free seed (suc added) ≡ members ++ number ∷ [] = ap (λ (ms : List ℕ). ms ++ option_to_list (next_member arch elements free ms)) (sym is) ∙ ap (λ more. members ++ option_to_list more) (sym next) in
      let full : arch.cluster_size ≤ length (members_after arch elements free seed (suc added)) = (let count = ap (λ (ms : List ℕ). length ms) one in omega (arith, count, last, length-append members (number ∷ []))) in
      sym (grown_full arch elements free seed (suc added) arch.cluster_size (omega (arith, within)) (none_joins (members_after arch elements free seed (suc added)) full) ∙ one)

  -- a seed that makes the cluster full
  pub alone : (cleared : List ℕ) (seed : ℕ) → Some seed ≡ first_most (input_count_at elements) (free_in taken) → cleared ≡ [] → arch.cluster_size ≡ 1 → cleared ++ seed ∷ [] ≡ cluster_of arch elements (free_in taken)
  alone cleared seed first nothing one =
      let full : arch.cluster_size ≤ length (cleared ++ seed ∷ []) = omega (arith, one, length-append cleared (seed ∷ [])) in
      sym (full_stays (cleared ++ seed ∷ []) arch.cluster_size full) ∙ cluster_is arch elements (free_in taken) (cleared ++ seed ∷ []) cleared seed first nothing refl

-- a property of all members, when the last one may or may not have been added
pub all_filled : (P : ℕ → Type 0) (members filled : List ℕ) (number : ℕ) (made : Bool) → filled ≡ (if made then members ++ number ∷ [] else members) → All P members → P number → All P filled
all_filled P members filled number true is all one = rw is (All-append P members (number ∷ []) all (All-cons P number [] one (All-nil P)))
all_filled P members filled number false is all one = rw is all
