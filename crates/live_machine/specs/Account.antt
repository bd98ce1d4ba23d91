-- What all calls of a machine amount to.
use Rattle.std.specs.Prelude.{ℕ, ◌≡◌, List, [], ◌∷◌, ◌++◌, map, Bool, true, false, Option, Some, None, ⊤, if◌then◌else◌}
use Rattle.std.specs.List.{AllByRecursion, flat_map}
use Rattle.live_machine.specs.Prelude.{is_name, TextSoFar, items_to_come, rest_of, said_by, Asked, LiveState, asked_of, Says}
use Rattle.live_machine.specs.Held.{Held, HeldItem, held_of}
use Rattle.live_machine.specs.declared.held.OpenText.{OpenText}
use Rattle.live_machine.specs.declared.held.OpenText.TheVariants.{NoText, Begun, Lost}
use Rattle.live_machine.specs.Machine.{Call, MachineState}
use Rattle.live_machine.specs.Machine.Call.{Line, Drain}
use Rattle.live_machine.specs.Turn.{IsDay, IsServedTurn, Turn, heard_lines, log_of, told_of}

-- the lines of the input, and what was taken to be kept and to be told
abbrev pub line_in : Call → List (List ℕ)
line_in (Line line) = line ∷ []
line_in call = []

abbrev pub lines_in : List Call → List (List ℕ)
lines_in calls = flat_map line_in calls

abbrev pub log_drained : Call → List ℕ
log_drained (Drain log told) = log
log_drained call = []

abbrev pub told_drained : Call → List ℕ
told_drained (Drain log told) = told
told_drained call = []

-- these are the items, each by its lines; of one that was lost nothing is known
abbrev pub AreItems : List HeldItem → List (List (List ℕ)) → Type 0
AreItems [] [] = ⊤
AreItems (Some lines ∷ held) (item ∷ items) = (item ≡ lines) × AreItems held items
AreItems (None ∷ held) (item ∷ items) = AreItems held items
AreItems held items = ⊥

-- these are the lines of the text so far
abbrev pub IsText : OpenText → List (List ℕ) → Type 0
IsText NoText lines = lines ≡ []
IsText (Begun begun) lines = lines ≡ begun
IsText Lost lines = ⊤

-- these lines of a name wait for their turn
abbrev pub AreWaiting : Option Held → List (List ℕ) → Type 0
AreWaiting None lines = lines ≡ []
AreWaiting (Some h) lines = (items : List (List (List ℕ))) × (text : List (List ℕ)) × AreItems h.items items × IsText h.text text × (lines ≡ flat_map (λ item. item) items ++ text)

-- each item of what a name said was served, in the order in which it was said, or waits for its
-- turn
pub record IsSaid (begun : Option TextSoFar) (name : List ℕ) (lines heard : List (List ℕ)) (held : Option Held) : Type 0 where
  pub waiting : List (List ℕ)
  pub are_waiting : AreWaiting held waiting
  pub same : items_to_come begun (said_by name lines) ≡ items_to_come begun (said_by name heard ++ map rest_of waiting)

-- the line is of no name's session
abbrev pub is_nobodys : Asked → Bool
is_nobodys (Says name said) = false
is_nobodys asked = true

abbrev pub nobodys_line : List ℕ → List (List ℕ)
nobodys_line line = if is_nobodys (asked_of line) then line ∷ [] else []

abbrev pub nobodys_lines : List (List ℕ) → List (List ℕ)
nobodys_lines lines = flat_map nobodys_line lines

-- The account: what was taken so far is what is kept and told of some turns, and what is to be
-- taken next is that of the turns after them. So nothing is told whose line is not kept. All turns
-- are a day of the live service. Each line came once, and is served in its order: those of the
-- operator at once, those of a name in their order.
pub record IsAccount (begun : LiveState) (first : ℕ) (calls : List Call) (now : MachineState) : Type 0 where
  pub taken : List Turn
  pub rest : List Turn
  pub day : IsDay begun first (taken ++ rest) now.live now.next
  pub log_taken : flat_map log_drained calls ≡ log_of taken
  pub told_taken : flat_map told_drained calls ≡ told_of taken
  pub log : now.log ≡ log_of rest
  pub told : now.told ≡ told_of rest
  pub served : AllByRecursion IsServedTurn (taken ++ rest)
  pub said : (name : List ℕ) → is_name name ≡ true → IsSaid (begun.texts name) name (lines_in calls) (heard_lines (taken ++ rest)) (held_of now.held name)
  pub nobodys : nobodys_lines (lines_in calls) ≡ nobodys_lines (heard_lines (taken ++ rest))
