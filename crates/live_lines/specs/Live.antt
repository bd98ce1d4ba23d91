-- What each line of a live service asks, and what is done and written for it.
use Rattle.std.specs.Prelude.{ℕ, ◌≡◌, ◌+◌, List, [], ◌∷◌, ◌++◌, codes, decimal, length, nat_le, Bool, true, false, not, ◌==◌, ◌||◌, ◌&&◌, Option, Some, None, Ok, ⊤, if◌then◌else◌}
use Rattle.std.specs.List.{list_all}
use Rattle.std.specs.Str.{bytes_eq}
use Rattle.live_lines.specs.Prelude.{physical_lines, is_blank, Operator, Session, OperatorLine, Step, List as ListAll, Acts, is_name, named_operator, script_of, ServiceState, SessionLine, Stage, Tagged, answer_told, id_of, is_good_id, output_of, owner_of, rest_of, tag_of}
use Rattle.live_lines.specs.Acts.{IsAnswered, Telling}
use Rattle.std.specs.Io.KnownBytes.{Appends}
use Rattle.live_lines.specs.declared.live.Live.{Live}
use Rattle.live_lines.specs.declared.asked.TheConstants.{MAX_ECHO, MAX_OPERATOR_LINE}
use Rattle.live_lines.specs.declared.asked.LineRequest.{LineRequest as AskedIn}
use Rattle.live_lines.specs.declared.asked.LineRequest.TheVariants.{Nothing as NothingIn, NoForm as NoFormIn, Echoes as EchoesIn, Figures as FiguresIn, Operates as OperatesIn, Says as SaysIn}
use Rattle.live_lines.specs.Figures.{AreFigures}
use Rattle.live_lines.specs.Said.{HearsLine, IsEven, Texts, texts_of}

-- what a line asks: nothing; something without a form, which is refused; that the operator is
-- answered these words, or how full the service is; another line of the operator; or a line of
-- that name's session
pub data Asked : Type 0 where
  Nothing : Asked
  NoForm : Asked
  Echoes : List ℕ → Asked
  Figures : Asked
  Operates : OperatorLine (List ℕ) → Asked
  Says : List ℕ → List ℕ → Asked

-- a comment, or a line without a word
abbrev pub begins_comment : List ℕ → Bool
begins_comment [] = false
begins_comment (b ∷ line) = b == 35

abbrev pub is_passed : List ℕ → Bool
is_passed line = begins_comment line || list_all is_blank line

-- what a script of this one line asks of the operator
abbrev pub operator_asks : Acts → Asked
operator_asks (Ok (Operator line ∷ [])) = Operates line
operator_asks acts = NoForm

-- words that `echo` may have: 1 to 64 letters, digits, signs and blanks of ASCII
abbrev pub is_echoed : ℕ → Bool
is_echoed byte = nat_le 32 byte && nat_le byte 126

abbrev pub are_echoed : List ℕ → Bool
are_echoed words = nat_le 1 (length words) && nat_le (length words) MAX_ECHO && list_all is_echoed words

-- the line has the tag `op` without an id, and says `echo`, one blank, and such words
abbrev pub is_echo : List ℕ → List ℕ → Bool
is_echo line said = bytes_eq (tag_of line) (codes "op") && bytes_eq (tag_of said) (codes "echo") && are_echoed (rest_of said)

-- what a line of the operator asks, from what it says, and from a script of this one line
abbrev pub words_ask : List ℕ → List ℕ → Acts → Asked
words_ask line said acts = if is_echo line said then Echoes (rest_of said) else if bytes_eq line (codes "op figures") then Figures else operator_asks acts

-- a line of the operator may not be longer than 1,048,576 bytes
abbrev pub is_short : List ℕ → Bool
is_short line = nat_le (length line) MAX_OPERATOR_LINE

-- what a line asks, from its tag's owner, the line, and what it says
abbrev pub asked_by : List ℕ → List ℕ → List ℕ → Asked
asked_by [] line rest = NoForm
asked_by (b ∷ name) line rest =
    if b == 64 then (if is_name name then Says name rest else NoForm) else
    if bytes_eq (b ∷ name) (codes "op") && is_short line then words_ask line rest (script_of 1 line) else NoForm

-- the tag may have an id
abbrev pub asked_of : List ℕ → Asked
asked_of line =
    if is_passed line then Nothing else
    if is_good_id (id_of (tag_of line)) then asked_by (owner_of (tag_of line)) line (rest_of line) else NoForm

-- private: what a value of the program asks
abbrev pub asks : AskedIn → Asked
asks NothingIn = Nothing
asks NoFormIn = NoForm
asks (EchoesIn words) = Echoes words.now
asks FiguresIn = Figures
asks (OperatesIn line) = Operates (named_operator line)
asks (SaysIn tag name rest) = Says name.now rest.now

-- private: what a name says has that tag
abbrev pub HasTag : List ℕ → AskedIn → Type 0
HasTag tag (SaysIn own name rest) = own.now ≡ tag
HasTag tag asked = ⊤

-- the state of the service, and the text that each name is in
pub record LiveState : Type 0 where
  pub stage : Stage
  pub texts : Texts

-- with another state of the core
abbrev pub with_service : LiveState → ServiceState → LiveState
with_service live service = record live { stage = record live.stage { service = service } }

abbrev pub for_operator : List ℕ → Tagged
for_operator text = record { tag = codes "op"; text = text }

abbrev pub for_name : List ℕ → List ℕ → Tagged
for_name name text = record { tag = 64 ∷ name; text = text }

-- whether the number of lines of the reply is open: the reply itself does not say it
abbrev pub is_open : OperatorLine (List ℕ) → Bool
is_open ListAll = true
is_open (Step name count) = true
is_open line = false

-- the line that says how many lines follow
abbrev pub count_text : List ℕ → List ℕ
count_text text = codes "lines " ++ decimal (length (physical_lines text))

abbrev pub told_by : Bool → List ℕ → List Tagged
told_by true text = for_operator (count_text text) ∷ for_operator text ∷ []
told_by false text = for_operator text ∷ []

abbrev pub operator_told : OperatorLine (List ℕ) → List ℕ → List Tagged
operator_told line text = told_by (is_open line) text

-- an item is answered, if there is one, with that tag
abbrev pub TellsItem : Stage → List ℕ → List ℕ → Option SessionLine → List Telling → List Tagged → Stage → Type 0
TellsItem old tag name None tellings told new = (tellings ≡ []) × (told ≡ []) × (new ≡ old)
TellsItem old tag name (Some item) tellings told new = (t : Telling)
    × (t.act ≡ Session name item) × IsAnswered old t.act t.calls t.text new × (tellings ≡ t ∷ []) × (told ≡ answer_told tag t.text)

-- a line of that number and tag that asks this leads to these answered acts, to what is written,
-- and to the new state
abbrev pub TakesAsked : LiveState → ℕ → List ℕ → Asked → List Telling → List Tagged → LiveState → Type 0
TakesAsked old number tag Nothing tellings told new = (tellings ≡ []) × (told ≡ []) × (new ≡ old)
TakesAsked old number tag NoForm tellings told new = (tellings ≡ []) × (told ≡ record { tag = codes "?"; text = decimal number } ∷ []) × (new ≡ old)
TakesAsked old number tag (Echoes words) tellings told new = (tellings ≡ []) × (told ≡ for_operator words ∷ []) × (new ≡ old)
TakesAsked old number tag Figures tellings told new = (text : List ℕ) × AreFigures old.stage.service number old.stage.names text × (tellings ≡ []) × (told ≡ told_by true text) × (new ≡ old)
TakesAsked old number tag (Operates line) tellings told new = (t : Telling)
    × (t.act ≡ Operator line) × IsAnswered old.stage t.act t.calls t.text new.stage × (tellings ≡ t ∷ []) × (told ≡ operator_told line t.text) × (new.texts ≡ old.texts)
TakesAsked old number tag (Says name line) tellings told new = (item : Option SessionLine)
    × HearsLine old.texts name line item new.texts × TellsItem old.stage tag name item tellings told new.stage

-- the lines, one after another, the first of them having that number
abbrev pub Takes : LiveState → ℕ → List (List ℕ) → List Telling → List Tagged → LiveState → Type 0
Takes old number [] tellings told new = (tellings ≡ []) × (told ≡ []) × (new ≡ old)
Takes old number (line ∷ lines) tellings told new = (first : List Telling) × (first_told : List Tagged) × (mid : LiveState) × (others : List Telling) × (others_told : List Tagged)
    × TakesAsked old number (tag_of line) (asked_of line) first first_told mid × Takes mid (number + 1) lines others others_told new
    × (tellings ≡ first ++ others) × (told ≡ first_told ++ others_told)

-- private: the state of a live service
abbrev pub stage_of : Live → Stage
stage_of live = record { names = live.operator; jobs = live.jobs; service = live.core; graph = live.graph.now }

abbrev pub state_of : Live → LiveState
state_of live = record { stage = stage_of live; texts = texts_of live.said }

-- private: each id has a name, and each name a reader
pub record IsSteady (live : Live) : Type 0 where
  pub ids : length live.operator ≡ length live.core.histories
  pub said : IsEven live.said

-- private: a line was taken, and this was written
pub record TakesLine (old : LiveState) (number : ℕ) (tag : List ℕ) (asked : Asked) (before after : Option (List ℕ)) (new : LiveState) : Type 0 where
  pub tellings : List Telling
  pub told : List Tagged
  pub takes : TakesAsked old number tag asked tellings told new
  pub writes : Appends before after (output_of told)

-- private: an item was taken, and this was written
pub record TakesItem (old : Stage) (tag name : List ℕ) (item : SessionLine) (before after : Option (List ℕ)) (new : Stage) : Type 0 where
  pub telling : Telling
  pub act : telling.act ≡ Session name item
  pub answered : IsAnswered old telling.act telling.calls telling.text new
  pub writes : Appends before after (output_of (answer_told tag telling.text))

-- private: a line of the operator was taken, and this was written
pub record TakesOperator (old : Stage) (line : OperatorLine (List ℕ)) (before after : Option (List ℕ)) (new : Stage) : Type 0 where
  pub telling : Telling
  pub act : telling.act ≡ Operator line
  pub answered : IsAnswered old telling.act telling.calls telling.text new
  pub writes : Appends before after (output_of (operator_told line telling.text))

-- private: how full the service is was written
abbrev pub TellsFigures : Stage → ℕ → Option (List ℕ) → Option (List ℕ) → Type 0
TellsFigures old number before after = (text : List ℕ) × AreFigures old.service number old.names text × Appends before after (output_of (told_by true text))
