-- Trees with each number replaced by its node.
use Rattle.pathfinder.proofs.Prelude.{◌≡◌, ℕ, refl, List, [], ◌∷◌, map, arith, ◌∙◌, inl, inr, sym, ap, subst, Contains, concat, get_or-map, length-map, map-append, All-cons, All-nil, All-tail, Node, path_nodes, steps_of, pairs_of, LeadsOver}
use Rattle.std.specs.Prelude.{All}
use Rattle.pathfinder.proofs.Steps.{in_none, in_first, in_later, in_cases}

-- ---- members of a list that is mapped

pub to_map : {X Y : Type 0} (f : X → Y) (xs : List X) (x : X) → Contains xs x → Contains (map f xs) (f x)
to_map f xs x (k, within, is) = (k, omega (arith, length-map xs f, within), get_or-map f xs k x (f x) within ∙ ap f is)

pub from_map : {X Y : Type 0} (f : X → Y) (xs : List X) (y : Y) → Contains (map f xs) y → (x : X) × Contains xs x × (f x ≡ y)
from_map f [] y c = absurd (in_none y c)
from_map f (x ∷ xs) y c = elim (in_cases (f x) y (map f xs) c) [
  | inl e ↦ (x, in_first x xs, e)
  | inr d ↦ (let q = from_map f xs y d in (q.0, in_later x q.0 xs q.1, q.2))
]

pub all_mapped : {X Y : Type 0} (P : X → Type 0) (Q : Y → Type 0) (f : X → Y) → ((x : X) → P x → Q (f x)) → (xs : List X) → All P xs → All Q (map f xs)
all_mapped P Q f keeps [] each = All-nil Q
all_mapped P Q f keeps (x ∷ xs) each = All-cons Q (f x) (map f xs) (keeps x (each 0 x (omega arith))) (all_mapped P Q f keeps xs (All-tail P x xs each))

-- ---- trees

module _ (f : ℕ → Node) where
  pub nodes_told : (tree : List (List ℕ)) → path_nodes (map (map f) tree) ≡ map f (concat tree)
  nodes_told [] = refl
  nodes_told (path ∷ tree) = grind (arith, map-append, nodes_told tree)

  abbrev both : ℕ × ℕ → Node × Node
  both pair = (f pair.0, f pair.1)

  steps_told : (path : List ℕ) → steps_of (map f path) ≡ map both (steps_of path)
  steps_told [] = refl
  steps_told (a ∷ []) = refl
  steps_told (a ∷ b ∷ path) = ap (λ rest. (f a, f b) ∷ rest) (steps_told (b ∷ path))

  pairs_told : (tree : List (List ℕ)) → pairs_of (map (map f) tree) ≡ map both (pairs_of tree)
  pairs_told [] = refl
  pairs_told (path ∷ tree) = grind (arith, steps_told, map-append, pairs_told tree)

  pub to_nodes : (tree : List (List ℕ)) (x : ℕ) → Contains (concat tree) x → Contains (path_nodes (map (map f) tree)) (f x)
  to_nodes tree x c = subst (λ nodes. Contains nodes (f x)) (sym (nodes_told tree)) (to_map f (concat tree) x c)

  pub from_nodes : (tree : List (List ℕ)) (y : Node) → Contains (path_nodes (map (map f) tree)) y → (x : ℕ) × Contains (concat tree) x × (f x ≡ y)
  from_nodes tree y c = from_map f (concat tree) y (subst (λ nodes. Contains nodes y) (nodes_told tree) c)

  pub to_pairs : (tree : List (List ℕ)) (a b : ℕ) → Contains (pairs_of tree) (a, b) → Contains (pairs_of (map (map f) tree)) (f a, f b)
  to_pairs tree a b c = subst (λ pairs. Contains pairs (f a, f b)) (sym (pairs_told tree)) (to_map both (pairs_of tree) (a, b) c)

  pub from_pairs : (tree : List (List ℕ)) (y z : Node) → Contains (pairs_of (map (map f) tree)) (y, z) → (a : ℕ) × (b : ℕ) × Contains (pairs_of tree) (a, b) × (f a ≡ y) × (f b ≡ z)
  from_pairs tree y z c =
      let q = from_map both (pairs_of tree) (y, z) (subst (λ pairs. Contains pairs (y, z)) (pairs_told tree) c) in
      (q.0.0, q.0.1, q.1, ap (λ (pair : Node × Node). pair.0) q.2, ap (λ (pair : Node × Node). pair.1) q.2)

  pub leads_told : (pairs : List (ℕ × ℕ)) (more : List (Node × Node)) → ((a b : ℕ) → Contains pairs (a, b) → Contains more (f a, f b)) → (last node : ℕ) (rest : List ℕ) → LeadsOver pairs last node rest →
      LeadsOver more (f last) (f node) (map f rest)
  leads_told pairs more h last node [] l = ap f l
  leads_told pairs more h last node (x ∷ rest) l = (h node x l.0, leads_told pairs more h last x rest l.1)
