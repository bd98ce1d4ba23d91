-- Private: a script that is being read, and the acts that follow from its current state.
use Rattle.std.specs.Prelude.{ℕ, ◌≡◌, ◌≤◌, ◌<◌, ◌+◌, List, ◌++◌, length, map, true, false, Result, Ok, Err, ⊤}
use Rattle.script_text.specs.Prelude.{physical_lines, TextError, NoMemory, Fault, SessionLine, TextKind, text_ahead, text_item}
use Rattle.script_text.specs.declared.act.Act.{Act}
use Rattle.script_text.specs.declared.script.Reader.{Reader}
use Rattle.script_text.specs.Script.{Acts, acts_from, named_act}

abbrev pub with_acts : List (Act (List ℕ)) → Acts → Acts
with_acts acts (Ok more) = Ok (acts ++ more)
with_acts acts (Err fault) = Err fault

-- the acts so far, and those of the remaining lines
abbrev pub comes_to : Reader → Acts
comes_to reader = with_acts (map named_act reader.acts.items) (acts_from reader.number false (physical_lines reader.rest.now))

-- a part of the script is read: its acts are appended, or its fault is returned
abbrev pub Reads : Reader → Result (Unit {0}) (TextError ℕ) → Reader → Type 0
Reads old (Ok u) new = (comes_to old ≡ comes_to new) × (length new.rest.now < length old.rest.now) × (new.number + length new.rest.now ≤ old.number + length old.rest.now)
Reads old (Err (Fault fault)) new = comes_to old ≡ Err fault
Reads old (Err NoMemory) new = ⊤

-- the text at the start of the remaining script is read, up to its end if it has one
pub record ReadsText (old : Reader) (kind : TextKind) (line : SessionLine) (new : Reader) : Type 0 where
  pub line_is : line ≡ text_item kind (text_ahead (physical_lines old.rest.now))
  pub acts : new.acts ≡ old.acts
  pub goes_on : acts_from old.number true (physical_lines old.rest.now) ≡ acts_from new.number false (physical_lines new.rest.now)
  pub shorter : length new.rest.now ≤ length old.rest.now
  pub counted : new.number + length new.rest.now ≤ old.number + length old.rest.now
