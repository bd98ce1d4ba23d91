-- Where the front of a text ends.
use Rattle.std.specs.Prelude.{ℕ, ◌≡◌, Bool, true, List, [], ◌∷◌, ⊤}

-- the first byte of the text, if there is one, passes
abbrev pub Stops : (ℕ → Bool) → List ℕ → Type 0
Stops test [] = ⊤
Stops test (byte ∷ rest) = test byte ≡ true
