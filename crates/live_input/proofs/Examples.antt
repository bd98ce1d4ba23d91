-- The lines of an input, computed by the checker.
use Rattle.live_input.proofs.Prelude.{◌≡◌, [], ◌∷◌, refl, codes, kept_of, told_to, kept_input, kept_lines}

-- a last line without LF is none
lines : kept_lines (codes "@a x\n\nop lis") ≡ codes "@a x" ∷ [] ∷ []
unfolding kept_of
lines = refl

mixed : told_to (codes "@a") (kept_input (codes "@a x\n@b y\n@a/7 z\n@a w")) ≡ codes "x\nz\n"
unfolding kept_of
mixed = refl
