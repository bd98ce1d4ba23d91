-- The search for the least number of tracks, number by number.
use Rattle.one_user.proofs.Prelude.{ℕ, ◌≡◌, ◌+◌, ◌<◌, ◌≤◌, ◌⊎◌, inl, inr, Ok, Option, Some, sym, subst, arith, ◌∙◌, eq-or-lt_of_le, AreUnroutedBelow, ComesTo, WasUnrouted, Request, DevicePlan, FlowOutcome}

pub none_below : (plan : DevicePlan) (request : Request) → AreUnroutedBelow plan request 1
none_below plan request = λ tracks low l. absurd (omega (arith, low, l))

-- one more number
pub unrouted_more : (plan : DevicePlan) (request : Request) (limit : ℕ) (told : FlowOutcome) → AreUnroutedBelow plan request limit → ComesTo plan request limit told → WasUnrouted told → AreUnroutedBelow plan request (limit + 1)
unrouted_more plan request limit told below comes was = λ tracks low l. by tracks low (eq-or-lt_of_le (next tracks l))
  where
    next : (tracks : ℕ) → tracks < limit + 1 → tracks ≤ limit
    next tracks l = omega (arith, l)

    by : (tracks : ℕ) → 1 ≤ tracks → (tracks ≡ limit) ⊎ (tracks < limit) → (told : FlowOutcome) × ComesTo plan request tracks told × WasUnrouted told
    by tracks low (inl e) = subst (λ t. (told : FlowOutcome) × ComesTo plan request t told × WasUnrouted told) (sym e) (told, comes, was)
    by tracks low (inr less) = below tracks low less
