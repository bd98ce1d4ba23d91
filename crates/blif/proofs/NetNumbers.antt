-- Numbers of nets, appended one after another.
use Rattle.blif.proofs.Prelude.{◌≡◌, ℕ, ◌+◌, ◌-◌, ◌<◌, List, [], ◌∷◌, ◌++◌, length, get_or, take, map, sym, ap, ◌∙◌, append_assoc, slice_get, Some, refl, arith, length-map, map_push, take-map, number_of, last_of, front_of, table_with}
use Rattle.blif.proofs.Places.{take_place}

-- the numbers of the names before the last, and that of the last
pub front_numbers : (f : List ℕ → ℕ) (names : List (List ℕ)) (numbers : List ℕ) → numbers ≡ map f names → take (length numbers - 1) numbers ≡ map f (front_of names)
front_numbers f names numbers are = grind (arith, length-map, take-map)

last_map : (f : List ℕ → ℕ) (name : List ℕ) (names : List (List ℕ)) → get_or (map f (name ∷ names)) (length names) 0 ≡ f (last_of (name ∷ names))
last_map f name [] = refl
last_map f name (next ∷ names) = last_map f next names

pub last_number : (f : List ℕ → ℕ) (names : List (List ℕ)) (numbers : List ℕ) → numbers ≡ map f names → 0 < length numbers → get_or numbers (length numbers - 1) 0 ≡ f (last_of names)
last_number f [] numbers are some = absurd (omega (arith, some, ap length are))
last_number f (name ∷ names) numbers are some =
    let count : length numbers - 1 ≡ length names = omega (arith, ap length are, length-map (name ∷ names) f) in
    ap (λ n. get_or numbers n 0) count ∙ ap (λ ns. get_or ns (length names) 0) are ∙ last_map f name names

-- the table with names is a single table
pub table_with_names : (nets : List (List ℕ)) (line : ℕ) (names : List (List ℕ)) → 0 < length names → table_with nets line names ≡ record { line = line; inputs = map (number_of nets) (front_of names); output = number_of nets (last_of names) } ∷ []
table_with_names nets line names h = grind arith

pub numbers_at : (f : List ℕ → ℕ) (old now : List ℕ) (names : List (List ℕ)) (place n : ℕ) (name : List ℕ) → place < length names → slice_get names place ≡ Some name → now ≡ old ++ map f (take place names) → n ≡ f name → now ++ n ∷ [] ≡ old ++ map f (take (place + 1) names)
numbers_at f old now names place n name within at so_far is =
    ap (λ numbers. numbers ++ n ∷ []) so_far
    ∙ append_assoc old (map f (take place names)) (n ∷ [])
    ∙ ap (λ rest. old ++ rest) (ap (λ m. map f (take place names) ++ m ∷ []) is ∙ sym (ap (map f) (take_place names place name within at) ∙ map_push f (take place names) name))
