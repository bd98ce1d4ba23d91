-- Examples computed by the checker.
use Rattle.operator.proofs.Prelude.{◌≡◌, ◌∷◌, [], codes, refl, Finished, Recorded, Nothing, last_id, outcome_text}

finished : outcome_text (Recorded Finished) ≡ codes "finished\n"
finished = refl

nothing : outcome_text Nothing ≡ codes "none\n"
nothing = refl

last_of_two : last_id (codes "T" ∷ codes "U" ∷ codes "T" ∷ []) (codes "T") ≡ 3
last_of_two = refl
