-- Private: the numbers of names, in the order in which the names are added.
use Rattle.std.specs.Prelude.{ℕ, ◌≡◌, List, [], ◌∷◌, IsTrue, map}
use Rattle.std.specs.List.{list_all}
use Rattle.blif.specs.Names.{has_name, number_of, with_name}

-- the names are nets, and these are their numbers
pub record AreNumbered (nets names : List (List ℕ)) (given : List ℕ) : Type 0 where
  pub named : IsTrue (list_all (has_name nets) names)
  pub numbers : given ≡ map (number_of nets) names

-- the number of each of the others, when they are added one after another
abbrev pub numbers_of : List (List ℕ) → List (List ℕ) → List ℕ
numbers_of names [] = []
numbers_of names (name ∷ others) = number_of names name ∷ numbers_of (with_name names name) others
