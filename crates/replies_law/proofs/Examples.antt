-- Examples that are computed.
use Rattle.replies_law.proofs.Prelude.{◌≡◌, true, false, [], ◌∷◌, codes, refl, Blank, Operator, Session, Evict, Move, Step, fits, is_admitted, own_acts, own_answer, RanOut}
use Rattle.script_text.specs.declared.operator_line.OperatorLine.TheVariants.{Admit, List as ListAll}

-- the lines of one of two names
others_deleted : own_acts (codes "A") (Operator (Admit (codes "B") 3) ∷ Operator (Admit (codes "A") 2) ∷ Session (codes "B") Blank ∷ Session (codes "A") Blank ∷ Operator (Move (codes "A") 4) ∷ Operator ListAll ∷ Operator (Step (codes "A") 1) ∷ [])
    ≡ Operator (Admit (codes "A") 2) ∷ Session (codes "A") Blank ∷ Operator (Step (codes "A") 1) ∷ []
others_deleted = refl

-- an admission that is granted, and one that isn't
is_granted : is_admitted (Operator (Admit (codes "A") 2)) (codes "ok 1 0\n") ≡ true
is_granted = refl

is_refused : is_admitted (Operator (Admit (codes "A") 2)) (codes "refused 2 NoRoom\n") ≡ false
is_refused = refl

-- widths on a device with three columns
fits_exactly : fits 3 3 ≡ true
fits_exactly = refl

too_wide : fits 3 4 ≡ false
too_wide = refl

-- a step that ran out of memory after one that didn't
second_step : RanOut (Operator (Step (codes "A") 2)) (codes "advanced\nnomemory\n")
second_step = (codes "advanced\n", [], refl)

-- the answer to an eviction counts, and the answer to an admission doesn't
eviction_counts : own_answer (Operator (Evict (codes "A"))) (codes "ok\n") ≡ codes "ok\n"
eviction_counts = refl

admission_differs : own_answer (Operator (Admit (codes "A") 2)) (codes "ok 7 4\n") ≡ []
admission_differs = refl
