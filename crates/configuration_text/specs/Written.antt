-- What writing a configuration to a sink can result in.
use Rattle.std.specs.Prelude.{ℕ, ◌≡◌, Bool, List, Option, Result, Ok, Err}
use Rattle.configuration_text.specs.Prelude.{TakesAll, TakesPart}
use Rattle.configuration_text.specs.declared.written.Unwritten.{Unwritten}
use Rattle.configuration_text.specs.declared.written.Unwritten.TheVariants.{NoMemory, SinkFailed}

-- the sink takes all of the text; nothing, if memory runs out; or a beginning of it, and has failed
abbrev pub IsWritten : {S : Type 0} → (S → Option (List ℕ)) → (S → Bool) → S → S → List ℕ → Result (Unit {0}) Unwritten → Type 0
IsWritten contents has_failed old new text (Ok u) = TakesAll contents has_failed old new text
IsWritten contents has_failed old new text (Err NoMemory) = new ≡ old
IsWritten contents has_failed old new text (Err SinkFailed) = TakesPart contents has_failed old new text
