-- The place of a name among those that are held.
use Rattle.live_machine.proofs.Prelude.{◌≡◌, ℕ, suc, ◌+◌, ◌<◌, length, get_or, arith, List, [], ◌∷◌, Bool, true, false, not, cond, Some, None, refl, ap, subst, ◌∙◌, filter, items_where_true, position, position_or_len, IsFiltered, ReturnsInTurn, bytes_eq, set, slice_get-get_or, slice_get_past, Held, HearsHeld, HearsOf, TakesFirst, TakesLostItems, TakesLostOf, TakesOf, held_of, with_held, without_name}
use Rattle.std.specs.List.{slice_get}
use Rattle.backlog.specs.declared.backlog.Turn.{Turn}
use Rattle.live_machine.proofs.HeldLemmas.{name_of_held, same_name}

-- the name is that of what is held
abbrev pub is_of : List ℕ → Held → Bool
is_of name h = bytes_eq h.name name

held_at : (held : List Held) (name : List ℕ) → held_of held name ≡ slice_get held (position_or_len (is_of name) held)
held_at [] name = refl
held_at (h ∷ held) name = grind (arith, held_at held name)

changed_at : (held : List Held) (new : Held) → position_or_len (is_of new.name) held < length held → set held (position_or_len (is_of new.name) held) new ≡ with_held held new
changed_at [] new within = absurd (omega arith)
changed_at (h ∷ held) new within =
    elim (bytes_eq h.name new.name) as (λ b. cond (not b) (1 + position_or_len (is_of new.name) held) 0 < length (h ∷ held) →
    set (h ∷ held) (cond (not b) (1 + position_or_len (is_of new.name) held) 0) new ≡ cond b (new ∷ held) (h ∷ with_held held new)) [
      | true ↦ λ w. refl
      | false ↦ λ w. (let n : 1 + position_or_len (is_of new.name) held ≡ suc (position_or_len (is_of new.name) held) = omega arith in
          ap (λ k. set (h ∷ held) k new) n ∙ ap (λ hs. h ∷ hs) (changed_at held new (omega arith)))
    ] within

-- what is held at a place
pub record IsPlace (held : List Held) (name : List ℕ) (place : ℕ) : Type 0 where
  pub within : place < length held
  pub found : (h : Held) → h ≡ get_or held place h → held_of held name ≡ Some h
  pub changed : (new : Held) → new.name ≡ name → set held place new ≡ with_held held new

pub at_place : (held : List Held) (name : List ℕ) (place : ℕ) → position (is_of name) held ≡ Some place → IsPlace held name place
at_place held name place is = grind (arith, held_at, slice_get-get_or, changed_at)

pub at_none : (held : List Held) (name : List ℕ) → position (is_of name) held ≡ None → held_of held name ≡ None
at_none held name is = grind (arith, held_at, slice_get_past)

-- what is held at a place has that name
pub named_at : (held : List Held) (name : List ℕ) (place : ℕ) (h : Held) → IsPlace held name place → h ≡ get_or held place h → h.name ≡ name
named_at held name place h at is = name_of_held held name h (at.found h is)

pub hears_at : (held : List Held) (name : List ℕ) (place : ℕ) (old : Held) (line : List ℕ) (new : Held) → IsPlace held name place → old ≡ get_or held place old → new.name ≡ old.name → HearsHeld old line new →
    HearsOf (held_of held name) held line (set held place new)
hears_at held name place old line new at is own hears = grind (arith, named_at held name place old)

keeps_name : (old : Held) (turn : Turn (List (List ℕ))) (new : Held) → TakesFirst old turn new → new.name ≡ old.name
keeps_name old turn new takes = grind arith

pub takes_at : (held : List Held) (name : List ℕ) (place : ℕ) (old : Held) (turn : Turn (List (List ℕ))) (new : Held) → IsPlace held name place → old ≡ get_or held place old → TakesFirst old turn new →
    TakesOf (held_of held name) held turn (set held place new)
takes_at held name place old turn new at is takes = grind (arith, named_at held name place old)

pub takes_lost_at : (held : List Held) (name : List ℕ) (place : ℕ) (old : Held) (count : ℕ) (new : Held) → IsPlace held name place → old ≡ get_or held place old → TakesLostItems old count new →
    TakesLostOf (held_of held name) held count (set held place new)
takes_lost_at held name place old count new at is h3 = grind (arith, named_at held name place old)

-- a name is held no longer, whatever was held of it
pub freed_changed : (held : List Held) (new : Held) → without_name (with_held held new) new.name ≡ without_name held new.name
freed_changed [] new = refl
freed_changed (h ∷ held) new = grind (arith, same_name, freed_changed held new)

first_left : {X : Type 0} (x : X) (xs ys : List X) (bs : List Bool) (b t : Bool) → b ≡ t → items_where_true bs xs ≡ ys → items_where_true (b ∷ bs) (x ∷ xs) ≡ cond t (x ∷ ys) ys
first_left x xs ys bs b t e rest = grind arith

left_in_turn : {X F : Type 0} (R : F → X → Bool → F → Type 0) (test : X → Bool) (f : F) → ((x : X) (b : Bool) (g : F) → R f x b g → (b ≡ test x) × (g ≡ f)) →
    (bs : List Bool) (xs : List X) (q : F) → length bs ≡ length xs → ReturnsInTurn R f bs xs q → items_where_true bs xs ≡ filter test xs
left_in_turn R test f says [] [] q e h = refl
left_in_turn R test f says [] (x ∷ xs) q e h = absurd (omega arith)
left_in_turn R test f says (b ∷ bs) [] q e h = absurd h
left_in_turn R test f says (b ∷ bs) (x ∷ xs) q e h =
    let said = says x b h.0 h.1 in
    first_left x xs (filter test xs) bs b (test x) said.0 (left_in_turn R test f says bs xs q (omega arith) (subst (λ g. ReturnsInTurn R g bs xs q) said.1 h.2))

-- what `retain` leaves if no call changes the closure
pub left_by : {X F : Type 0} (R : F → X → Bool → F → Type 0) (test : X → Bool) (f : F) → ((x : X) (b : Bool) (g : F) → R f x b g → (b ≡ test x) × (g ≡ f)) → (xs ys : List X) → IsFiltered R f xs ys → ys ≡ filter test xs
left_by R test f says xs ys h = h.4 ∙ left_in_turn R test f says h.0 xs h.1 h.2 h.3

pub those_left : (held : List Held) (name : List ℕ) → filter (λ h. not (bytes_eq h.name name)) held ≡ without_name held name
those_left [] name = refl
those_left (h ∷ held) name = grind (arith, those_left held name)
