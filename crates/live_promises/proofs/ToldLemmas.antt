-- The answers of a live service are those of a script.
use Rattle.live_promises.proofs.Prelude.{◌≡◌, ℕ, List, [], ◌∷◌, ◌++◌, map, true, refl, ap, ◌∙◌, arith, kept_of, Device, empty_service, Act, is_name, items_to_come, Run-append, Stage, Tagged, output_of, told_to, AreToldAlone, Telling as ScriptTelling, Tells, calls_of, IsAnswered, IsHeadline, answered_runs, told_runs, items_for, replies_for, said_by, LiveState, Takes, AreTaken, begins, IsToldLive, of_script}
use Rattle.service_core.specs.Run.{Call, Run}
use Rattle.live_lines.specs.Acts.{Telling, IsAnswered as IsAnsweredLive, Tells as TellsLive}

answered_so : (old : Stage) (act : Act (List ℕ)) (calls : List Call) (text : List ℕ) (new : Stage) → IsAnsweredLive old act calls text new → IsAnswered old act calls text new
answered_so old act calls text new is = grind arith

tells_so : (old : Stage) (tellings : List Telling) (new : Stage) → TellsLive old tellings new → Tells old (map of_script tellings) new
tells_so old [] new is = is
tells_so old (t ∷ tellings) new (mid, answered, rest) = (mid, answered_so old t.act t.calls t.text mid answered, tells_so mid tellings new rest)

acts_alone : IsHeadline → (device : Device) (before : List Call) (old : Stage) (ts : List ScriptTelling) (last : Stage) → Run (empty_service device) before old.service → Tells old ts last → AreToldAlone device old before ts
acts_alone headline device before old [] last runs told = tt
acts_alone headline device before old (t ∷ ts) last runs told = grind (arith, acts_alone headline device (before ++ t.calls) told.0 ts last (Run-append (empty_service device) before old.service t.calls (told.0).service runs (answered_runs old t.act t.calls t.text told.0 told.1)) told.2)

-- what the laws of a live service say
pub record AreLiveLaws : Type 0 where
  pub items : (name : List ℕ) (old new : LiveState) (number : ℕ) (lines : List (List ℕ)) (tellings : List Telling) (told : List Tagged) → is_name name ≡ true → Takes old number lines tellings told new → items_to_come (old.texts name) (said_by name lines) ≡ items_for name tellings ++ items_to_come (new.texts name) []
  pub replies : (name : List ℕ) (old new : LiveState) (number : ℕ) (lines : List (List ℕ)) (tellings : List Telling) (told : List Tagged) → Takes old number lines tellings told new → told_to (64 ∷ name) (output_of told) ≡ replies_for name tellings
  pub tells : (old new : LiveState) (number : ℕ) (lines : List (List ℕ)) (tellings : List Telling) (told : List Tagged) → Takes old number lines tellings told new → TellsLive old.stage tellings new.stage

pub told_live : IsHeadline → AreLiveLaws → (device : Device) (lines : List (List ℕ)) (text : List ℕ) (last : LiveState) → AreTaken (begins device) 1 lines text last → IsToldLive device lines text last
told_live headline laws device lines text last taken =
    let tells = tells_so (begins device).stage taken.tellings last.stage (laws.tells (begins device) last 1 (map kept_of lines) taken.tellings taken.told taken.takes) in
    let runs : Run (empty_service device) (calls_of (map of_script taken.tellings)) last.stage.service = told_runs (begins device).stage (map of_script taken.tellings) last.stage tells in
    record {
      tellings = taken.tellings;
      told = taken.told;
      text_is = taken.text_is;
      tells = tells;
      each_alone = acts_alone headline device [] (begins device).stage (map of_script taken.tellings) last.stage refl tells;
      runs = runs;
      alone = headline.alone _ _ _ runs;
      journals = headline.journals _ _ _ runs;
      parted = headline.parted _ _ _ runs;
      book = headline.book _ _ _ runs;
      one_owner = headline.exact _ _ _ runs;
      items = λ name is. laws.items name (begins device) last 1 (map kept_of lines) taken.tellings taken.told is taken.takes;
      replies = λ name. ap (told_to (64 ∷ name)) taken.text_is ∙ laws.replies name (begins device) last 1 (map kept_of lines) taken.tellings taken.told taken.takes;
    }
