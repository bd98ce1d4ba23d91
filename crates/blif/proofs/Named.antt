-- A name that is among the names: its mark, and that it remains among them.
use Rattle.blif.proofs.Prelude.{◌≡◌, ℕ, zero, suc, ◌+◌, ◌<◌, Bool, true, false, ◌&&◌, ◌||◌, List, [], ◌∷◌, ◌++◌, Some, length, get_or, take, drop, map, slice_get, refl, sym, ap, ◌∙◌, arith, Bor, flat_map, list_all, bytes_eq, one-add, map_push, take-append-drop, list_all-append, list_any-append, and_at, bytes_eq-Decides, has_name-rest, number_of-first, number_of-later, texts, has_name, number_of, with_name, with_names}
use Rattle.blif.proofs.Places.{take_place}

pub and_left : (a b : Bool) → (a && b) ≡ true → a ≡ true
and_left a b h = grind arith

pub and_right : (a b : Bool) → (a && b) ≡ true → b ≡ true
and_right a b h = grind arith

or_true : (a : Bool) → (a || (true || false)) ≡ true
or_true a = grind arith

-- the value of a function at a name's number is its value for the name
pub mark_at : (f : List ℕ → Bool) (names : List (List ℕ)) (name : List ℕ) (d : Bool) → has_name names name ≡ true → get_or (map f names) (number_of names name) d ≡ f name
mark_at f [] name d h = absurd cc
mark_at f (first ∷ names) name d h = by (bytes_eq name first) refl (λ there. mark_at f names name d there)
  where
    by : (b : Bool) → bytes_eq name first ≡ b → (has_name names name ≡ true → get_or (map f names) (number_of names name) d ≡ f name) → get_or (map f (first ∷ names)) (number_of (first ∷ names) name) d ≡ f name
    by true e rest =
        ap (λ k. get_or (map f (first ∷ names)) k d) (number_of-first first names name e)
        ∙ ap f (sym ((bytes_eq-Decides name first).0 e))
    by false e rest =
        ap (λ k. get_or (map f (first ∷ names)) k d) (number_of-later first names name e ∙ one-add (number_of names name))
        ∙ rest (has_name-rest name first names e h)

-- the name at a name's number is that name
pub name_at : (names : List (List ℕ)) (name : List ℕ) → has_name names name ≡ true → get_or names (number_of names name) [] ≡ name
name_at [] name h = absurd cc
name_at (first ∷ names) name h = by (bytes_eq name first) refl (λ there. name_at names name there)
  where
    by : (b : Bool) → bytes_eq name first ≡ b → (has_name names name ≡ true → get_or names (number_of names name) [] ≡ name) → get_or (first ∷ names) (number_of (first ∷ names) name) [] ≡ name
    by true e rest = ap (λ k. get_or (first ∷ names) k []) (number_of-first first names name e) ∙ sym ((bytes_eq-Decides name first).0 e)
    by false e rest =
        ap (λ k. get_or (first ∷ names) k []) (number_of-later first names name e ∙ one-add (number_of names name))
        ∙ rest (has_name-rest name first names e h)

-- a name is still among the names after another is added
pub has_name-with_name : (names : List (List ℕ)) (added name : List ℕ) → has_name names name ≡ true → has_name (with_name names added) name ≡ true
has_name-with_name names added name h = grind (arith, list_any-append)

has_name-with_names : (names others : List (List ℕ)) (name : List ℕ) → has_name names name ≡ true → has_name (with_names names others) name ≡ true
has_name-with_names names [] name h = h
has_name-with_names names (added ∷ others) name h = has_name-with_names (with_name names added) others name (has_name-with_name names added name h)

-- the added name is among the names
pub has_name-added : (names : List (List ℕ)) (name : List ℕ) → has_name (with_name names name) name ≡ true
has_name-added names name = grind (arith, list_any-append, bytes_eq-Decides)

-- all added names are among the names
pub all_named : (names others : List (List ℕ)) → list_all (has_name (with_names names others)) others ≡ true
all_named names [] = refl
all_named names (added ∷ others) = grind (arith, has_name-with_names, has_name-added, all_named (with_name names added) others)

-- if all elements of the joined lists pass, so do those of each list
pub list_all-part : {X : Type 0} (p : List ℕ → Bool) (f : X → List (List ℕ)) (xs : List X) (i : ℕ) (x : X) → list_all p (flat_map f xs) ≡ true → slice_get xs i ≡ Some x → list_all p (f x) ≡ true
list_all-part p f [] i x h at = absurd cc
list_all-part p f (y ∷ xs) zero x h at = grind (arith, list_all-append)
list_all-part p f (y ∷ xs) (suc i) x h at = list_all-part p f xs i x (and_right _ _ (sym (list_all-append p (f y) (flat_map f xs)) ∙ h)) at

-- if all elements of a list pass, so do those of a front of it
pub list_all-take : (p : List ℕ → Bool) (n : ℕ) (xs : List (List ℕ)) → list_all p xs ≡ true → list_all p (take n xs) ≡ true
list_all-take p n xs h = and_left _ _ (sym (list_all-append p (take n xs) (drop n xs)) ∙ ap (list_all p) (take-append-drop n xs) ∙ h)

-- if all names pass, so does the name at an index
pub named_at : (p : List ℕ → Bool) (slices : List (Bor (List ℕ))) (i : ℕ) (d : Bor (List ℕ)) → i < length slices → list_all p (texts slices) ≡ true → p (get_or slices i d).now ≡ true
named_at p slices i d within h = and_at (λ xs. list_all p (texts xs)) (λ slice. p slice.now) refl (λ _ _. refl) slices i d within h

-- the marks with that of one more name
pub marks_more : (f : List ℕ → Bool) (marks : List Bool) (names : List (List ℕ)) (place : ℕ) (name : List ℕ) (mark : Bool) → place < length names → slice_get names place ≡ Some name → marks ≡ map f (take place names) → mark ≡ f name → marks ++ mark ∷ [] ≡ map f (take (place + 1) names)
marks_more f marks names place name mark within at so_far is =
    let before : List Bool = map f (take place names) in
    let all : map f (take (place + 1) names) ≡ before ++ f name ∷ [] = ap (map f) (take_place names place name within at) ∙ map_push f (take place names) name in
    let longer : marks ++ mark ∷ [] ≡ before ++ f name ∷ [] = cc in
    longer ∙ sym all
