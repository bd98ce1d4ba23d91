-- Texts that show things.
use Rattle.std.specs.Prelude.{ℕ, ◌≡◌, ◌⊎◌, List, [], ◌∷◌, ◌++◌}

-- each thing has a part of the text that shows it, in order
abbrev pub ShowsEach : {X : Type 0} → (X → List ℕ → Type 0) → List X → List ℕ → Type 0
ShowsEach Shows [] text = text ≡ []
ShowsEach Shows (thing ∷ others) text = (part : List ℕ) × (rest : List ℕ) × Shows thing part × ShowsEach Shows others rest × (text ≡ part ++ rest)

-- the text is empty, as when memory runs out, or shows what it should
abbrev pub IsEmptyOr : (List ℕ → Type 0) → List ℕ → Type 0
IsEmptyOr Shows text = (text ≡ []) ⊎ Shows text
