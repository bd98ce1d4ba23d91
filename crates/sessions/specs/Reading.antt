-- A session's input that is being read, and the items that follow from it.
use Rattle.std.specs.Prelude.{ℕ, ◌≡◌, List, ◌∷◌, ◌++◌, true, false, Option, Some, None, option_map}
use Rattle.sessions.specs.declared.line.LineForm.{LineForm}
use Rattle.sessions.specs.declared.line.SessionLine.{SessionLine}
use Rattle.sessions.specs.declared.line.TextKind.{TextKind}
use Rattle.sessions.specs.Items.{begins_text, items_from, text_ahead, text_item, with_form}

-- a text whose end isn't read yet: its command, and the bytes of it that are kept so far
pub record TextSoFar : Type 0 where
  pub kind : TextKind
  pub bytes : List ℕ

-- the item of a text that goes on with these lines
abbrev pub resumed_item : TextSoFar → List (List ℕ) → SessionLine
resumed_item text lines = text_item text.kind (option_map (λ more. text.bytes ++ more) (text_ahead lines))

-- the items of the lines that aren't read yet
abbrev pub items_to_come : Option TextSoFar → List (List ℕ) → List SessionLine
items_to_come None lines = items_from false lines
items_to_come (Some text) lines = resumed_item text lines ∷ items_from true lines

-- an item, if there is one, and those after it
abbrev pub item_and : Option SessionLine → List SessionLine → List SessionLine
item_and None items = items
item_and (Some item) items = item ∷ items

-- a line gives that item, if any, and leaves the items that follow
abbrev pub GivesItem : Option TextSoFar → List ℕ → Option SessionLine → Option TextSoFar → Type 0
GivesItem old line item new = (lines : List (List ℕ)) → items_to_come old (line ∷ lines) ≡ item_and item (items_to_come new lines)

-- private: a line of that form outside of texts gives that item, if any
abbrev pub FormGives : LineForm → Option SessionLine → Option TextSoFar → Type 0
FormGives form item new = (lines : List (List ℕ)) → with_form form lines (items_from (begins_text form) lines) ≡ item_and item (items_to_come new lines)
