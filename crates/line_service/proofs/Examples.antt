-- A conversation of a service that answers each line by itself, computed by the checker.
use Rattle.line_service.proofs.Prelude.{◌≡◌, ℕ, List, [], ◌∷◌, ◌++◌, codes, refl, kept_in, told_in, Kept, Told, kept_of, AreAnswered, ended_lines}

-- the line again, and LF
abbrev echoes : ℕ → ℕ → List ℕ → List ℕ → ℕ → Type 0
echoes old number line reply new = (reply ≡ line ++ 10 ∷ []) × (new ≡ old)

two_lines : AreAnswered echoes 0 1 (codes "a" ∷ codes "b" ∷ []) (codes "a\nb\n") 0
unfolding kept_of
two_lines = (codes "a\n", 0, codes "b\n", (refl, refl), (codes "b\n", 0, [], (refl, refl), (refl, refl), refl), refl)

kept : kept_in (Kept (codes "a\nb") ∷ Told (codes "a\n") ∷ Kept (codes "\n") ∷ Told (codes "b\n") ∷ []) ≡ codes "a\nb\n"
kept = refl

told : told_in (Kept (codes "a\nb") ∷ Told (codes "a\n") ∷ Kept (codes "\n") ∷ Told (codes "b\n") ∷ []) ≡ codes "a\nb\n"
told = refl

-- what stands after the last LF is no line
ended : ended_lines (codes "a\n\nplace 1 10") ≡ codes "a" ∷ [] ∷ []
ended = refl
