-- Private: a threaded script that is being read.
use Rattle.std.specs.Prelude.{ℕ, ◌≡◌, List, map, Option, Some, None, Result, Ok, Err, ⊤}
use Rattle.std.specs.Borrow.{Bor}
use Rattle.std.specs.Option.{option_map_or}
use Rattle.script_text.specs.Prelude.{TextError, NoMemory, Fault}
use Rattle.script_text.specs.declared.threaded.ThreadedReader.{ThreadedReader}
use Rattle.script_text.specs.declared.form.Form.{Form}
use Rattle.script_text.specs.declared.operator_line.OperatorLine.{OperatorLine}
use Rattle.script_text.specs.Script.{named_form, named_operator}
use Rattle.script_text.specs.Names.{AreNamed}
use Rattle.script_text.specs.Threaded.{Heard, Parts, Threaded, Within, heard_so_far, hears_form, hears_in, said_by, with_operator}
use Rattle.script_text.specs.Threaded.Within.{Script, Upload}

-- what the next line belongs to, by the name whose text is being read
abbrev pub within_of : Option (Bor (List ℕ)) → Within
within_of None = Script
within_of (Some name) = Upload name.now

abbrev pub parts_read : ThreadedReader → Parts
parts_read r = record { ahead = map named_operator r.ahead.items; sessions = map said_by r.sessions.said.items; rest = map named_operator r.rest.items }

-- one more line after those read so far
abbrev pub hears : Heard → List ℕ → Option Heard
hears h line = hears_in h.within h.parts line

-- the result from a line with that number on: its fault, or the result of the rest
abbrev pub goes_on : ℕ → Option Heard → (Heard → Threaded) → Threaded
goes_on number next rest = option_map_or rest next (Err number)

abbrev pub heard_by : ThreadedReader → Heard
heard_by r = heard_so_far (parts_read r) (within_of r.within)

-- one more line of the operator
abbrev pub AddsOperator : ThreadedReader → OperatorLine (List ℕ) → ThreadedReader → Type 0
AddsOperator old line new = (parts_read new ≡ with_operator (parts_read old) line) × (new.sessions ≡ old.sessions) × (new.within ≡ old.within)

-- a line of that form, outside of texts, is read, or its fault is returned
abbrev pub HearsForm : ThreadedReader → ℕ → Form (Bor (List ℕ)) → List ℕ → Result (Unit {0}) (TextError ℕ) → ThreadedReader → Type 0
HearsForm old number form line (Ok u) new = (hears_form (parts_read old) (named_form form) line ≡ Some (heard_by new)) × AreNamed new.sessions
HearsForm old number form line (Err (Fault fault)) new = (hears_form (parts_read old) (named_form form) line ≡ None) × (fault ≡ number)
HearsForm old number form line (Err NoMemory) new = ⊤

-- a line is read, or its fault is returned
abbrev pub Hears : ThreadedReader → ℕ → List ℕ → Result (Unit {0}) (TextError ℕ) → ThreadedReader → Type 0
Hears old number line (Ok u) new = (hears (heard_by old) line ≡ Some (heard_by new)) × AreNamed new.sessions
Hears old number line (Err (Fault fault)) new = (hears (heard_by old) line ≡ None) × (fault ≡ number)
Hears old number line (Err NoMemory) new = ⊤
