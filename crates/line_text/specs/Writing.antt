-- What writing a text to a device can result in.
use Rattle.std.specs.Prelude.{◌≡◌, ℕ, ◌≤◌, Bool, true, List, length, take, Option, Result, Ok, Err}
use Rattle.std.specs.Io.KnownBytes.{Appends}
use Rattle.line_text.specs.declared.source.Failed.{Failed}

-- the device takes all of the text
pub record TakesAll {S : Type 0} (contents : S → Option (List ℕ)) (has_failed : S → Bool) (old new : S) (text : List ℕ) : Type 0 where
  pub bytes : Appends (contents old) (contents new) text
  pub works : has_failed new ≡ has_failed old

-- the device fails after it has taken a beginning of the text
pub record TakesPart {S : Type 0} (contents : S → Option (List ℕ)) (has_failed : S → Bool) (old new : S) (text : List ℕ) : Type 0 where
  pub count : ℕ
  pub within : count ≤ length text
  pub bytes : Appends (contents old) (contents new) (take count text)
  pub fails : has_failed new ≡ true

-- the text is written, or the device has failed
abbrev pub Writes : {S : Type 0} → (S → Option (List ℕ)) → (S → Bool) → S → S → List ℕ → Result (Unit {0}) Failed → Type 0
Writes contents has_failed old new text (Ok u) = TakesAll contents has_failed old new text
Writes contents has_failed old new text (Err failed) = TakesPart contents has_failed old new text
