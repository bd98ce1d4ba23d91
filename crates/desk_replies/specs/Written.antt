-- Texts of which only a relation says what they are.
use Rattle.std.specs.Prelude.{ℕ, ◌≡◌, Bool, List, [], ◌∷◌, ◌++◌, Option}
use Rattle.desk_replies.specs.Prelude.{TakesAll}

-- a text of which that holds is written
abbrev pub WritesSome : {S : Type 0} → (S → Option (List ℕ)) → (S → Bool) → S → S → (List ℕ → Type 0) → Type 0
WritesSome contents has_failed old new IsText = (text : List ℕ) × IsText text × TakesAll contents has_failed old new text

-- one text after another: of each item one of which that holds
abbrev pub AreTextsOf : {A : Type 0} → (A → List ℕ → Type 0) → List A → List ℕ → Type 0
AreTextsOf IsTextOf [] text = text ≡ []
AreTextsOf IsTextOf (item ∷ items) text = (first rest : List ℕ) × IsTextOf item first × AreTextsOf IsTextOf items rest × (text ≡ first ++ rest)
