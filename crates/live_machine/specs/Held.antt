-- A name that is held: its job runs, and it has said `wait`. What it says until it is answered
-- waits too.
use Rattle.std.specs.Prelude.{ℕ, ◌≡◌, ◌⊎◌, List, [], ◌∷◌, ◌++◌, Bool, true, false, Option, Some, None, ⊤, if◌then◌else◌, not}
use Rattle.std.specs.Str.{bytes_eq}
use Rattle.std.specs.List.{AllByRecursion, list_all}
use Rattle.live_machine.specs.Prelude.{Turn, Item, Nothing as NothingWaits, Lost as ItemIsLost, TakesLost, is_one_line, kept_of, asked_of, Says, Cancel, Withdraw, LineForm, Asks, Begins, Blank, Command, Wait, Change, ends_text, without_cr, line_form, rest_of}
use Rattle.live_machine.specs.declared.held.OpenText.{OpenText}
use Rattle.live_machine.specs.declared.held.OpenText.TheVariants.{NoText, Begun, Lost}

-- an item by its lines, or one that was lost
abbrev pub HeldItem : Type 0
HeldItem = Option (List (List ℕ))

-- a name that is held, the id of the tenancy in which it said these items, the items, and the text
-- after them. Without items it is held for the end of a text that was lost
pub record Held : Type 0 where
  pub name : List ℕ
  pub id : ℕ
  pub items : List HeldItem
  pub text : OpenText

-- what a line of a session asks, outside of texts
abbrev pub form_of : List ℕ → LineForm
form_of line = line_form (without_cr (rest_of line))

-- one more item; it is lost if memory runs out or there are too many
abbrev pub PutsItem : List HeldItem → List (List ℕ) → List HeldItem → Type 0
PutsItem old lines new = (new ≡ old ++ Some lines ∷ []) ⊎ (new ≡ old ++ None ∷ [])

-- a line of that form comes, outside of texts. One without a word is passed over
abbrev pub HearsForm : LineForm → Held → List ℕ → Held → Type 0
HearsForm (Begins kind) old line new = (new ≡ record old { text = Begun (line ∷ []) }) ⊎ (new ≡ record old { text = Lost })
HearsForm (Asks Blank) old line new = new ≡ old
HearsForm (Asks item) old line new = (items : List HeldItem) × PutsItem old.items (line ∷ []) items × (new ≡ record old { items = items })

-- a line comes while the name is in that text, whose last line it is or not. If a text is lost, so
-- is its item
abbrev pub HearsIn : OpenText → Bool → Held → List ℕ → Held → Type 0
HearsIn NoText ends old line new = HearsForm (form_of line) old line new
HearsIn (Begun lines) false old line new = (new ≡ record old { text = Begun (lines ++ line ∷ []) }) ⊎ (new ≡ record old { text = Lost })
HearsIn (Begun lines) true old line new = (items : List HeldItem) × PutsItem old.items (lines ++ line ∷ []) items × (new ≡ record old { items = items; text = NoText })
HearsIn Lost false old line new = new ≡ old
HearsIn Lost true old line new = new ≡ record old { items = old.items ++ None ∷ []; text = NoText }

abbrev pub HearsHeld : Held → List ℕ → Held → Type 0
HearsHeld old line new = HearsIn old.text (ends_text (rest_of line)) old line new

-- the command gives the running job up
abbrev pub gives_up : LineForm → Bool
gives_up (Asks (Command Cancel)) = true
gives_up (Asks (Command Withdraw)) = true
gives_up (Begins Change) = true
gives_up form = false

-- a line of a held name that ends its `wait`: `cancel`, `withdraw` or `change`, outside of texts
abbrev pub calls_off : OpenText → List ℕ → Bool
calls_off NoText line = gives_up (form_of line)
calls_off text line = false

abbrev pub is_wait : LineForm → Bool
is_wait (Asks Wait) = true
is_wait form = false

-- the item is a `wait`
abbrev pub is_wait_item : List (List ℕ) → Bool
is_wait_item (line ∷ []) = is_wait (form_of line)
is_wait_item lines = false

-- what is held of a name, if it is
abbrev pub held_of : List Held → List ℕ → Option Held
held_of [] name = None
held_of (h ∷ held) name = if bytes_eq h.name name then Some h else held_of held name

-- those that are held, but this one
abbrev pub without_name : List Held → List ℕ → List Held
without_name [] name = []
without_name (h ∷ held) name = if bytes_eq h.name name then without_name held name else h ∷ without_name held name

-- with this in the place of what was held of its name
abbrev pub with_held : List Held → Held → List Held
with_held [] new = []
with_held (h ∷ held) new = if bytes_eq h.name new.name then new ∷ held else h ∷ with_held held new

-- a line as it is read, that this name says
pub record IsSaidBy (name line : List ℕ) : Type 0 where
  pub kept : kept_of line ≡ line
  pub one : is_one_line line ≡ true
  pub says : asked_of line ≡ Says name (rest_of line)

-- the name said the lines of the item, or of the text
abbrev pub IsSaidItem : List ℕ → HeldItem → Type 0
IsSaidItem name None = ⊤
IsSaidItem name (Some lines) = AllByRecursion (IsSaidBy name) lines

abbrev pub IsSaidText : List ℕ → OpenText → Type 0
IsSaidText name NoText = ⊤
IsSaidText name (Begun lines) = AllByRecursion (IsSaidBy name) lines
IsSaidText name Lost = ⊤

-- a held name said all that is held of it
pub record AreSaid (h : Held) : Type 0 where
  pub items : AllByRecursion (IsSaidItem h.name) h.items
  pub text : IsSaidText h.name h.text

abbrev pub begins_with_wait : List HeldItem → Bool
begins_with_wait (Some lines ∷ items) = is_wait_item lines
begins_with_wait items = false

abbrev pub is_lost_text : OpenText → Bool
is_lost_text Lost = true
is_lost_text text = false

abbrev pub has_items : List HeldItem → Bool
has_items [] = false
has_items (item ∷ items) = true

-- the first item is taken
abbrev pub TakesFirst : Held → Turn (List (List ℕ)) → Held → Type 0
TakesFirst old (Item lines) new = (old.items ≡ Some lines ∷ new.items) × (new ≡ record old { items = new.items }) × AllByRecursion (IsSaidBy old.name) lines
TakesFirst old ItemIsLost new = (old.items ≡ None ∷ new.items) × (new ≡ record old { items = new.items })
TakesFirst old NothingWaits new = (old.items ≡ []) × (new ≡ old)

-- its items that were lost and come next are taken, that many
abbrev pub TakesLostItems : Held → ℕ → Held → Type 0
TakesLostItems old count new = TakesLost old.items count new.items × (new ≡ record old { items = new.items })

-- a line of a name comes, of which that is held; without it nothing changes
abbrev pub HearsOf : Option Held → List Held → List ℕ → List Held → Type 0
HearsOf None old line new = new ≡ old
HearsOf (Some h) old line new = (after : Held) × HearsHeld h line after × (new ≡ with_held old after)

-- the first item of a name is taken, of which that is held
abbrev pub TakesOf : Option Held → List Held → Turn (List (List ℕ)) → List Held → Type 0
TakesOf None old turn new = (turn ≡ NothingWaits) × (new ≡ old)
TakesOf (Some h) old turn new = (after : Held) × TakesFirst h turn after × (new ≡ with_held old after)

-- the items of a name that were lost and come next are taken, that many, if that is held of it
abbrev pub TakesLostOf : Option Held → List Held → ℕ → List Held → Type 0
TakesLostOf None old count new = (count ≡ 0) × (new ≡ old)
TakesLostOf (Some h) old count new = (after : Held) × TakesLostItems h count after × (new ≡ with_held old after)

-- the text in which a name is, if it is held
abbrev pub text_of : Option Held → OpenText
text_of None = NoText
text_of (Some h) = h.text

-- no name has an item
abbrev pub are_at_rest : List Held → Bool
are_at_rest held = list_all (λ h. not (has_items h.items)) held
