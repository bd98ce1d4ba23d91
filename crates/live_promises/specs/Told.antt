-- What the lines of a live service are answered.
use Rattle.std.specs.Prelude.{ℕ, ◌≡◌, List, [], ◌∷◌, ◌++◌, map, None, true}
use Rattle.live_promises.specs.Prelude.{kept_of, Device, AreOwnJournals, AreParted, EachIsAlone, IsBook, HasOneOwner, empty_service, is_name, items_to_come, Tagged, output_of, told_to, AreToldAlone, Telling as ScriptTelling, Tells, calls_of, items_for, replies_for, said_by, LiveState, begins}
use Rattle.service_core.specs.Run.{Run}
use Rattle.live_lines.specs.Acts.{Telling}

-- an answered act as one of a script
abbrev pub of_script : Telling → ScriptTelling
of_script t = record { act = t.act; calls = t.calls; text = t.text }

-- The text is what those acts are answered, each line with its tag. They are answered as the acts
-- of a script that is served in order; so each tenancy is alone, its journal is its own, the strips
-- are separated, and nothing has two owners. The acts of a name's session are the items of the
-- lines with its tag, and the lines of the text with its tag are its replies, byte for byte.
pub record IsToldLive (device : Device) (lines : List (List ℕ)) (text : List ℕ) (last : LiveState) : Type 0 where
  pub tellings : List Telling
  pub told : List Tagged
  pub text_is : text ≡ output_of told
  pub tells : Tells (begins device).stage (map of_script tellings) last.stage
  pub each_alone : AreToldAlone device (begins device).stage [] (map of_script tellings)
  pub runs : Run (empty_service device) (calls_of (map of_script tellings)) last.stage.service
  pub alone : EachIsAlone device (calls_of (map of_script tellings)) last.stage.service
  pub journals : AreOwnJournals (calls_of (map of_script tellings)) last.stage.service
  pub parted : AreParted device last.stage.service
  pub book : IsBook device (calls_of (map of_script tellings)) last.stage.service
  pub one_owner : HasOneOwner last.stage.service
  pub items : (name : List ℕ) → is_name name ≡ true → items_to_come None (said_by name (map kept_of lines)) ≡ items_for name tellings ++ items_to_come (last.texts name) []
  pub replies : (name : List ℕ) → told_to (64 ∷ name) text ≡ replies_for name tellings
