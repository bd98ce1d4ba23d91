-- Sessions on threads that are joined.
use Rattle.script_threads.proofs.Prelude.{◌≡◌, List, [], ◌∷◌, ◌++◌, Option, arith, map, IfSome, IsSomeAnd, Global, Vec, map_push, Started, started_by, PartState, asked_in}

-- one more is joined
pub joined : {C : Type 0} (r old : Option (Vec PartState Global)) (p : Option PartState) (told : List (Started C)) (s : Started C) →
    IfSome r (λ all. IsSomeAnd old (λ o. IsSomeAnd p (λ x. all.items ≡ o.items ++ x ∷ []))) → IfSome p (λ x. asked_in x ≡ started_by s) → IfSome old (λ o. map asked_in o.items ≡ map started_by told) →
    IfSome r (λ all. map asked_in all.items ≡ map started_by (told ++ s ∷ []))
joined r old p told s pushed asked so_far = grind (arith, map_push)
