-- What a pen and its device become when the pen writes a text.
use Rattle.std.specs.Prelude.{◌≡◌, ℕ, Bool, true, false, List, Option}
use Rattle.line_text.specs.Writing.{TakesAll, TakesPart}

-- a pen whose device works writes all of the text, or notes that the device failed after a
-- beginning of it; a pen that has noted a failure writes nothing
abbrev pub Draws : {S : Type 0} → (S → Option (List ℕ)) → (S → Bool) → S → Bool → S → Bool → List ℕ → Type 0
Draws contents has_failed old false new false text = TakesAll contents has_failed old new text
Draws contents has_failed old false new true text = TakesPart contents has_failed old new text
Draws contents has_failed old true new noted text = (new ≡ old) × (noted ≡ true)
