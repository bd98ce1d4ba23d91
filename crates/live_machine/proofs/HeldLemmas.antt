-- What is held of each name.
use Rattle.live_machine.proofs.Prelude.{◌≡◌, ℕ, List, [], ◌∷◌, ◌++◌, true, false, cond, Some, None, refl, sym, ap, ◌∙◌, arith, bytes_eq, bytes_eq-Decides, Held, held_of, with_held, without_name}

pub same_name : (name : List ℕ) → bytes_eq name name ≡ true
same_name name = (bytes_eq-Decides name name).1 refl

pub one_name : (a b : List ℕ) → bytes_eq a b ≡ true → a ≡ b
one_name a b is = (bytes_eq-Decides a b).0 is

-- a name by another that isn't it
pub not_first : (first name other : List ℕ) → bytes_eq name other ≡ false → bytes_eq first name ≡ true → bytes_eq first other ≡ false
not_first first name other apart is = ap (λ n. bytes_eq n other) (one_name first name is) ∙ apart

pub changed_own : (held : List Held) (old new : Held) → held_of held new.name ≡ Some old → held_of (with_held held new) new.name ≡ Some new
changed_own [] old new is = absurd (cc)
changed_own (h ∷ held) old new is =
    elim (bytes_eq h.name new.name) as (λ b. bytes_eq h.name new.name ≡ b → cond b (Some h) (held_of held new.name) ≡ Some old → held_of (cond b (new ∷ held) (h ∷ with_held held new)) new.name ≡ Some new) [
      | true ↦ λ e s. ap (λ b. cond b (Some new) (held_of held new.name)) (same_name new.name)
      | false ↦ λ e s. ap (λ b. cond b (Some h) (held_of (with_held held new) new.name)) e ∙ changed_own held old new s
    ] refl is

pub changed_other : (held : List Held) (new : Held) (other : List ℕ) → bytes_eq new.name other ≡ false → held_of (with_held held new) other ≡ held_of held other
changed_other [] new other apart = refl
changed_other (h ∷ held) new other apart = grind (arith, not_first, changed_other held new other apart)

pub freed_own : (held : List Held) (name : List ℕ) → held_of (without_name held name) name ≡ None
freed_own [] name = refl
freed_own (h ∷ held) name = grind (arith, freed_own held name)

pub freed_other : (held : List Held) (name other : List ℕ) → bytes_eq name other ≡ false → held_of (without_name held name) other ≡ held_of held other
freed_other [] name other apart = refl
freed_other (h ∷ held) name other apart = grind (arith, not_first, freed_other held name other apart)

pub added_own : (held : List Held) (new : Held) → held_of held new.name ≡ None → held_of (held ++ new ∷ []) new.name ≡ Some new
added_own [] new none = ap (λ b. cond b (Some new) None) (same_name new.name)
added_own (h ∷ held) new none =
    elim (bytes_eq h.name new.name) as (λ b. cond b (Some h) (held_of held new.name) ≡ None → cond b (Some h) (held_of (held ++ new ∷ []) new.name) ≡ Some new) [
      | true ↦ λ e. absurd (cc)
      | false ↦ λ e. added_own held new e
    ] none

pub added_other : (held : List Held) (new : Held) (other : List ℕ) → bytes_eq new.name other ≡ false → held_of (held ++ new ∷ []) other ≡ held_of held other
added_other [] new other apart = ap (λ b. cond b (Some new) None) apart
added_other (h ∷ held) new other apart = ap (cond (bytes_eq h.name other) (Some h)) (added_other held new other apart)

pub name_of_held : (held : List Held) (name : List ℕ) (h : Held) → held_of held name ≡ Some h → h.name ≡ name
name_of_held [] name h is = absurd (cc)
name_of_held (first ∷ held) name h is =
    elim (bytes_eq first.name name) as (λ b. bytes_eq first.name name ≡ b → cond b (Some first) (held_of held name) ≡ Some h → h.name ≡ name) [
      | true ↦ λ e s. let it : first ≡ h = cc in sym (ap (λ (x : Held). x.name) it) ∙ one_name first.name name e
      | false ↦ λ e s. name_of_held held name h s
    ] refl is
