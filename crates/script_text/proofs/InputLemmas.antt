-- The inputs of sessions, found by name.
use Rattle.script_text.proofs.Prelude.{◌≡◌, ℕ, ◌<◌, ◌≤◌, List, [], ◌∷◌, ◌++◌, true, false, suc, zero, length, get_or, refl, sym, ap, ◌∙◌, arith, map, OnOk, Result, bytes_eq, set, SessionInput, number_of, with_name, number_of-first, number_of-later, with_name-first, with_name-later, names_in, Said, said_by, with_input}

with_input-first : (s : Said) (said : List Said) (name bytes : List ℕ) → bytes_eq name s.name ≡ true → with_input (s ∷ said) name bytes ≡ record s { input = s.input ++ bytes } ∷ said
with_input-first s said name bytes e = rw e refl

with_input-later : (s : Said) (said : List Said) (name bytes : List ℕ) → bytes_eq name s.name ≡ false → with_input (s ∷ said) name bytes ≡ s ∷ with_input said name bytes
with_input-later s said name bytes e = rw e refl

abbrev pub says : List ℕ → List ℕ → Said
says name input = record { name = name; input = input }

-- a name that has a session
pub with_input-set : (xs : List SessionInput) (name bytes : List ℕ) (k : ℕ) (v : SessionInput) → k ≡ number_of (names_in xs) name → k < length xs →
    v.name.now ≡ (get_or xs k v).name.now → v.input.items ≡ (get_or xs k v).input.items ++ bytes → map said_by (set xs k v) ≡ with_input (map said_by xs) name bytes
with_input-set [] name bytes k v at within same more = absurd (omega arith)
with_input-set (x ∷ xs) name bytes zero v at within same more =
    elim (bytes_eq name x.name.now) as (λ b. bytes_eq name x.name.now ≡ b → said_by v ∷ map said_by xs ≡ with_input (said_by x ∷ map said_by xs) name bytes) [
      | true ↦ λ e. ap (λ n. says n v.input.items ∷ map said_by xs) same ∙ ap (λ i. says x.name.now i ∷ map said_by xs) more ∙ sym (with_input-first (said_by x) (map said_by xs) name bytes e)
      | false ↦ λ e. let later = number_of-later x.name.now (names_in xs) name e in absurd (omega (arith, at, later))
    ] refl
with_input-set (x ∷ xs) name bytes (suc k) v at within same more =
    elim (bytes_eq name x.name.now) as (λ b. bytes_eq name x.name.now ≡ b → said_by x ∷ map said_by (set xs k v) ≡ with_input (said_by x ∷ map said_by xs) name bytes) [
      | true ↦ λ e. let first = number_of-first x.name.now (names_in xs) name e in absurd (omega (arith, at, first))
      | false ↦ λ e. let later = number_of-later x.name.now (names_in xs) name e in
          ap (λ ss. said_by x ∷ ss) (with_input-set xs name bytes k v (omega (arith, at, later)) (omega arith) same more)
          ∙ sym (with_input-later (said_by x) (map said_by xs) name bytes e)
    ] refl

pub names_in-set : (xs : List SessionInput) (k : ℕ) (v : SessionInput) → k < length xs → v.name.now ≡ (get_or xs k v).name.now → names_in (set xs k v) ≡ names_in xs
names_in-set [] k v within same = absurd (omega arith)
names_in-set (x ∷ xs) zero v within same = ap (λ n. n ∷ names_in xs) same
names_in-set (x ∷ xs) (suc k) v within same = ap (λ ns. x.name.now ∷ ns) (names_in-set xs k v (omega arith) same)

-- a name that is already in the list
pub with_name-found : (names : List (List ℕ)) (name : List ℕ) → number_of names name < length names → with_name names name ≡ names
with_name-found [] name h = absurd (omega arith)
with_name-found (n ∷ names) name h =
    elim (bytes_eq name n) as (λ b. bytes_eq name n ≡ b → with_name (n ∷ names) name ≡ n ∷ names) [
      | true ↦ λ e. with_name-first n names name e
      | false ↦ λ e. let later = number_of-later n names name e in with_name-later n names name e ∙ ap (λ ns. n ∷ ns) (with_name-found names name (omega (arith, h, later)))
    ] refl

pub with_input-push : (xs : List SessionInput) (name bytes : List ℕ) (v : SessionInput) → length xs ≤ number_of (names_in xs) name → v.name.now ≡ name → v.input.items ≡ bytes →
    map said_by (xs ++ v ∷ []) ≡ with_input (map said_by xs) name bytes
with_input-push [] name bytes v past named said = ap (λ n. says n v.input.items ∷ []) named ∙ ap (λ i. says name i ∷ []) said
with_input-push (x ∷ xs) name bytes v past named said =
    elim (bytes_eq name x.name.now) as (λ b. bytes_eq name x.name.now ≡ b → said_by x ∷ map said_by (xs ++ v ∷ []) ≡ with_input (said_by x ∷ map said_by xs) name bytes) [
      | true ↦ λ e. let first = number_of-first x.name.now (names_in xs) name e in absurd (omega (arith, past, first))
      | false ↦ λ e. let later = number_of-later x.name.now (names_in xs) name e in
          ap (λ ss. said_by x ∷ ss) (with_input-push xs name bytes v (omega (arith, past, later)) named said)
          ∙ sym (with_input-later (said_by x) (map said_by xs) name bytes e)
    ] refl

pub on_ok : {E P Q : Type 0} (r : Result (Unit {0}) E) → (P → Q) → OnOk r P → OnOk r Q
on_ok r f p = grind arith

pub on_ok_any : {E Q : Type 0} (r : Result (Unit {0}) E) → Q → OnOk r Q
on_ok_any r q = grind arith

pub length-names : (xs : List SessionInput) → length (names_in xs) ≡ length xs
length-names [] = refl
length-names (x ∷ xs) = ap suc (length-names xs)
