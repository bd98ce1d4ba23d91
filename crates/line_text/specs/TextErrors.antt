-- What a reader of a text returns: the text's value, or why it has none.
use Rattle.std.specs.Prelude.{ℕ, ◌≡◌, List, codes, Option, Some, Result, Ok, Err, ⊤}
use Rattle.line_text.specs.declared.text_error.TextError.{TextError}
use Rattle.line_text.specs.declared.text_error.TextError.TheVariants.{NoMemory, Fault}

-- a reader that found this fault may return this error
abbrev pub Fails : {F : Type 0} → Option F → TextError F → Type 0
Fails found (Fault fault) = found ≡ Some fault
Fails found NoMemory = ⊤

-- a reader of a text with this meaning may return that: the text's value, its fault, or that memory
-- ran out
abbrev pub Gives : {A F : Type 0} → Result A F → Result A (TextError F) → Type 0
Gives meant (Ok value) = meant ≡ Ok value
Gives meant (Err (Fault fault)) = meant ≡ Err fault
Gives meant (Err NoMemory) = ⊤

-- the second error is the first, with its fault converted to another kind
abbrev pub IsToldAs : {F G : Type 0} → (F → G → Type 0) → TextError F → TextError G → Type 0
IsToldAs Told NoMemory NoMemory = ⊤
IsToldAs Told (Fault fault) (Fault told) = Told fault told
IsToldAs Told NoMemory (Fault told) = ⊥
IsToldAs Told (Fault fault) NoMemory = ⊥

-- the fault as it is printed, or that memory ran out
abbrev pub printed_error : {F : Type 0} → (F → Option (List ℕ)) → TextError F → Option (List ℕ)
printed_error printed NoMemory = Some (codes "memory")
printed_error printed (Fault fault) = printed fault
