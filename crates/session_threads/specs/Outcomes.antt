-- Private: the outcomes of the lines of an input, one by one.
use Rattle.std.specs.Prelude.{ℕ, ◌≡◌, ⊤, List, [], ◌∷◌, Bool, true, false, Option, Some, None, is_some}
use Rattle.session_threads.specs.Prelude.{SessionLine, Blank, Command, Wait, Refused, GivesItem, TextSoFar, item_and, items_to_come, ItemAnswer}
use Rattle.session_threads.specs.declared.items.LineOutcome.{LineOutcome}
use Rattle.session_threads.specs.declared.items.LineOutcome.TheVariants.{Nothing, Item, NoMemory}
use Rattle.session_threads.specs.declared.items.Within.{Within}
use Rattle.session_threads.specs.declared.items.Within.TheVariants.{Session, Text, LostText}
use Rattle.session_threads.specs.Told.{AreTold, IsTold}

abbrev pub is_item : SessionLine → Bool
is_item Blank = false
is_item (Command command) = true
is_item Wait = true
is_item (Refused refusal) = true

-- an item that is the outcome of a line asks something
abbrev pub IsItem : LineOutcome → Type 0
IsItem Nothing = ⊤
IsItem (Item item) = is_item item ≡ true
IsItem NoMemory = ⊤

-- the text that is being read, if there is one; if memory ran out for a text it isn't known what
-- was read of it
abbrev pub IsWithin : Within → Option TextSoFar → Type 0
IsWithin Session text = text ≡ None
IsWithin (Text so_far) text = text ≡ Some so_far
IsWithin LostText text = is_some text ≡ true

-- the item that ended with a line, if one did, or that memory ran out for it
abbrev pub IsOutcome : Option SessionLine → LineOutcome → Type 0
IsOutcome None outcome = outcome ≡ Nothing
IsOutcome (Some item) Nothing = ⊥
IsOutcome (Some item) (Item it) = it ≡ item
IsOutcome (Some item) NoMemory = ⊤

-- a line of an input has that outcome, after lines that leave that text being read
pub record LineComesTo (text : Option TextSoFar) (line : List ℕ) (outcome : LineOutcome) (new : Within) : Type 0 where
  pub next : Option TextSoFar
  pub item : Option SessionLine
  pub within : IsWithin new next
  pub gives : GivesItem text line item next
  pub comes : IsOutcome item outcome

abbrev pub ComesTo : Within → List ℕ → LineOutcome → Within → Type 0
ComesTo old line outcome new = (text : Option TextSoFar) → IsWithin old text → LineComesTo text line outcome new

-- the answers to a line with that outcome
abbrev pub TellsOutcome : ℕ → LineOutcome → List (Option ItemAnswer) → Type 0
TellsOutcome id Nothing told = told ≡ []
TellsOutcome id (Item item) told = (t : Option ItemAnswer) × IsTold id item t × (told ≡ t ∷ [])
TellsOutcome id NoMemory told = told ≡ None ∷ []

-- the item at the input's end, if there is one
abbrev pub EndsItems : Within → Option SessionLine → Type 0
EndsItems within item = (text : Option TextSoFar) → IsWithin within text → items_to_come text [] ≡ item_and item []

-- a line's items have these answers, and leave the text that is being read then
pub record LineIsTold (id : ℕ) (text : Option TextSoFar) (line : List ℕ) (after : Within) (told : List (Option ItemAnswer)) : Type 0 where
  pub next : Option TextSoFar
  pub item : Option SessionLine
  pub within : IsWithin after next
  pub gives : GivesItem text line item next
  pub are : AreTold id (item_and item []) told

-- so it is whatever text was being read
abbrev pub TellsLine : ℕ → Within → List ℕ → Within → List (Option ItemAnswer) → Type 0
TellsLine id within line after told = (text : Option TextSoFar) → IsWithin within text → LineIsTold id text line after told
