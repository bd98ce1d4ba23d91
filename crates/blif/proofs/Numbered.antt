-- The numbers of names that are added one after another.
use Rattle.blif.proofs.Prelude.{◌≡◌, ℕ, ◌+◌, ◌≤◌, ◌<◌, true, false, not, List, [], ◌∷◌, ◌++◌, Some, length, get_or, take, drop, map, slice_get, if◌then◌else◌, refl, sym, ap, ◌∙◌, arith, length-append, Bor, flat_map, list_all, length-map, map-append, get_or-map, take_at, drop_at, drop_more, position_or_len_push, bytes_eq-Decides, JoinedLine, numbers_of, undriven_names, first_of, texts, has_name, number_of, with_name, with_names, names_of, number_of-within}
use Rattle.blif.proofs.Named.{has_name-with_name, has_name-added, name_at, named_at}
use Rattle.blif.proofs.Places.{drop_place}

-- a name that is among the names keeps its number
number_of-with_name : (names : List (List ℕ)) (added name : List ℕ) → has_name names name ≡ true → number_of (with_name names added) name ≡ number_of names name
number_of-with_name names added name h = grind (arith, number_of-within, position_or_len_push)

-- a new name's number is the same before and after it is added
number_of-added : (names : List (List ℕ)) (name : List ℕ) → number_of (with_name names name) name ≡ number_of names name
number_of-added names name = grind (arith, position_or_len_push, bytes_eq-Decides)

number_of-with_names : (names others : List (List ℕ)) (name : List ℕ) → has_name names name ≡ true → number_of (with_names names others) name ≡ number_of names name
number_of-with_names names [] name h = refl
number_of-with_names names (added ∷ others) name h = grind (arith, number_of-with_name, number_of-with_names (with_name names added) others name (has_name-with_name names added name h))

-- the numbers of names when they are added are their final numbers
pub numbered_all : (names others : List (List ℕ)) → numbers_of names others ≡ map (number_of (with_names names others)) others
numbered_all names [] = refl
numbered_all names (added ∷ others) = grind (arith, number_of-with_names, has_name-added, number_of-added, numbered_all (with_name names added) others)

pub numbered-append : (names xs ys : List (List ℕ)) → numbers_of names (xs ++ ys) ≡ numbers_of names xs ++ numbers_of (with_names names xs) ys
numbered-append names [] ys = refl
numbered-append names (x ∷ xs) ys = ap (λ rest. number_of names x ∷ rest) (numbered-append (with_name names x) xs ys)

-- the numbers of the nets of the remaining lines, split into those of one line and of the others
module _ (f : List ℕ → ℕ) (lines : List JoinedLine) (place : ℕ) (line : JoinedLine) (within : place < length lines) (at : slice_get lines place ≡ Some line)
    (rest : List ℕ) (count : ℕ) (so_far : rest ≡ map f (flat_map names_of (drop place lines))) (counted : count ≡ length (names_of line)) where
  parted : rest ≡ map f (names_of line) ++ map f (flat_map names_of (drop (place + 1) lines))
  parted =
      so_far ∙ ap (λ ls. map f (flat_map names_of ls)) (drop_place lines place line within at)
      ∙ map-append f (names_of line) (flat_map names_of (drop (place + 1) lines))

  long : length (map f (names_of line)) ≡ count
  long = length-map (names_of line) f ∙ sym counted

  pub enough_numbers : count ≤ length rest
  enough_numbers = omega (arith, long, ap length parted, length-append (map f (names_of line)) (map f (flat_map names_of (drop (place + 1) lines))))

  pub own_numbers : (front : List ℕ) → front ≡ take count rest → front ≡ map f (names_of line)
  own_numbers front is = is ∙ ap (take count) parted ∙ take_at (map f (names_of line)) (map f (flat_map names_of (drop (place + 1) lines))) count long

  pub later_numbers : (back : List ℕ) → back ≡ drop count rest → back ≡ map f (flat_map names_of (drop (place + 1) lines))
  later_numbers back is = is ∙ ap (drop count) parted ∙ drop_at (map f (names_of line)) (map f (flat_map names_of (drop (place + 1) lines))) count long

-- the number of a name that is a net
module _ (nets : List (List ℕ)) (slices : List (Bor (List ℕ))) (numbers : List ℕ) (i d : ℕ) (e : Bor (List ℕ))
    (within : i < length slices) (named : list_all (has_name nets) (texts slices) ≡ true) (numbers_are : numbers ≡ map (number_of nets) (texts slices)) where
  pub number_there : get_or numbers i d ≡ number_of nets (get_or slices i e).now
  number_there =
      ap (λ ns. get_or ns i d) numbers_are
      ∙ get_or-map (number_of nets) (texts slices) i (get_or slices i e).now d (omega (arith, length-map slices (λ (slice : Bor (List ℕ)). slice.now)))
      ∙ ap (number_of nets) (get_or-map (λ (slice : Bor (List ℕ)). slice.now) slices i e (get_or slices i e).now within)

  pub name_there : has_name nets (get_or slices i e).now ≡ true
  name_there = named_at (has_name nets) slices i e within named

  pub number_within : get_or numbers i d < length nets
  number_within = omega (arith, number_there, number_of-within nets (get_or slices i e).now name_there)

  pub net_there : get_or nets (get_or numbers i d) [] ≡ (get_or slices i e).now
  net_there = ap (λ n. get_or nets n []) number_there ∙ name_at nets (get_or slices i e).now name_there

-- the first of the names that is not driven, by one more name
module _ (drivers : List (List ℕ)) (slices : List (Bor (List ℕ))) (i : ℕ) (e : Bor (List ℕ)) (within : i < length slices)
    (left : first_of (undriven_names drivers (texts (drop i slices))) ≡ first_of (undriven_names drivers (texts slices))) where
  pub undriven_here : has_name drivers (get_or slices i e).now ≡ false → Some (get_or slices i e).now ≡ first_of (undriven_names drivers (texts slices))
  undriven_here h =
      sym (ap (λ b. first_of (if not b then (get_or slices i e).now ∷ undriven_names drivers (texts (drop (i + 1) slices)) else undriven_names drivers (texts (drop (i + 1) slices)))) h)
      ∙ ap (λ names. first_of (undriven_names drivers names)) (sym (ap texts (drop_more slices i e within)))
      ∙ left

  pub driven_here : has_name drivers (get_or slices i e).now ≡ true → first_of (undriven_names drivers (texts (drop (i + 1) slices))) ≡ first_of (undriven_names drivers (texts slices))
  driven_here h =
      sym (ap (λ b. first_of (if not b then (get_or slices i e).now ∷ undriven_names drivers (texts (drop (i + 1) slices)) else undriven_names drivers (texts (drop (i + 1) slices)))) h)
      ∙ ap (λ names. first_of (undriven_names drivers names)) (sym (ap texts (drop_more slices i e within)))
      ∙ left
