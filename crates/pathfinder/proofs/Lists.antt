-- Lists that are built element by element.
use Rattle.pathfinder.proofs.Prelude.{◌≡◌, ℕ, ◌+◌, ◌<◌, List, [], ◌∷◌, ◌++◌, length, get_or, map, take, arith, take_more, map-append}

-- one more element
pub map_more : {X Y : Type 0} (f : X → Y) (xs : List X) (i : ℕ) (d : X) (made : List Y) → made ≡ map f (take i xs) → i < length xs → made ++ f (get_or xs i d) ∷ [] ≡ map f (take (i + 1) xs)
map_more f xs i d made e l = grind (arith, map-append, take_more xs i d l, map-append f (take i xs) (get_or xs i d ∷ []))

-- one more element of a list of values
pub shown_more : {X Y Z : Type 0} (show : Z → Y) (f : X → Y) (xs : List X) (i : ℕ) (d : X) (made new : List Z) (last : Z) → new ≡ made ++ last ∷ [] → show last ≡ f (get_or xs i d) → map show made ≡ map f (take i xs) → i < length xs → map show new ≡ map f (take (i + 1) xs)
shown_more show f xs i d made new last e s m l = grind (arith, map-append, map_more)
