-- Known bytes that are consumed in turn.
use Rattle.session_threads.proofs.Prelude.{◌≡◌, ℕ, List, [], ◌∷◌, ◌++◌, Option, Some, None, append_assoc, arith, Consumes, IsAtEnd, Keeps, prepend_known}

pub consumes_both : (old mid new : Option (List ℕ)) (xs ys : List ℕ) → Consumes old mid xs → Consumes mid new ys → Consumes old new (xs ++ ys)
consumes_both old mid new xs ys a b = grind (arith, append_assoc)

pub keeps_consumes : (old new : Option (List ℕ)) → Keeps old new → Consumes old new []
keeps_consumes old new k = grind arith

pub consumes_kept : (old mid new : Option (List ℕ)) (xs : List ℕ) → Consumes old mid xs → Consumes mid new [] → Consumes old new xs
consumes_kept old mid new xs a b = grind arith

-- what is left, if nothing was read ahead
pub prepend_none : (known : Option (List ℕ)) → prepend_known [] known ≡ known
prepend_none known = grind arith

-- at the end of what was read ahead and of the rest, nothing is left
pub end_of_ahead : (bs : List ℕ) (known : Option (List ℕ)) → IsAtEnd (prepend_known bs known) → IsAtEnd known
end_of_ahead bs None e = tt
end_of_ahead [] (Some xs) e = e
end_of_ahead (b ∷ bs) (Some xs) e = let f : (b ∷ (bs ++ xs)) ≡ [] = e in cc
