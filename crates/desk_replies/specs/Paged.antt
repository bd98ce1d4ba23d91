-- What `page` prints of a script that was served.
use Rattle.std.specs.Prelude.{ℕ, ◌≡◌, ◌-◌, ◌^◌, Bool, true, false, List, [], ◌∷◌, ◌++◌, codes, decimal, option_map, slice_get, Option, Some, None, Ok, IfSome, ◌⊎◌}
use Rattle.std.specs.Borrow.{Bor}
use Rattle.std.specs.List.{concat, flat_map}
use Rattle.std.specs.Option.{option_map_or}
use Rattle.desk_replies.specs.Prelude.{decimal_of, TakesAll, MemorySink, element_text, Viewer, AnsweredLine, NameAccount, accounts_of, replies_in, refused_text, told_text, ToldLine, script_of, Act, ShowsPresentStops, IsBeginning}
use Rattle.desk_replies.specs.Lines.{AreLines}
use Rattle.desk_replies.specs.Overused.{IsDevice, IsOveruse}
use Rattle.desk_replies.specs.Served.{AreTold}
use Rattle.desk_replies.specs.States.{AreLastStates, LastStates, StateAfter, is_unrouted, state_after}
use Rattle.desk_replies.specs.Written.{AreTextsOf}
use Rattle.desk_replies.specs.declared.lines.Lines.{Lines}
use Rattle.desk_replies.specs.declared.shared_device.SharedDevice.{SharedDevice}
use Rattle.desk_replies.specs.declared.page_texts.PageTexts.{PageTexts}
use Rattle.desk_replies.specs.declared.page_tool.PageWishes.{PageWishes}

-- a line for a name's last state: the name, the number of the script's line of that act, and the
-- state
abbrev pub numbered_state : ℕ → StateAfter → List ℕ
numbered_state number one = concat (one.name ∷ codes " " ∷ decimal number ∷ codes " " ∷ one.state ∷ codes "\n" ∷ [])

abbrev pub line_of : List ToldLine → StateAfter → List ℕ
line_of told one = option_map_or (λ line. numbered_state line.number one) (slice_get told one.act) []

abbrev pub states_text : List ToldLine → LastStates → List ℕ
states_text told last = flat_map (λ one. line_of told (state_after one.1)) last

-- a size of the device, if it is given
abbrev pub size_text : List ℕ → Option (List ℕ) → List ℕ
size_text word (Some size) = concat (word ∷ codes " " ∷ size ∷ codes "\n" ∷ [])
size_text word None = []

abbrev pub device_text : PageWishes → List ℕ
device_text wishes = size_text (codes "columns") (option_map (λ text. text.now) wishes.columns) ++ size_text (codes "tracks") (option_map (λ text. text.now) wishes.tracks)

-- what the page shows of the script and the device: its lines with their replies, those that are
-- refused, the last state of each name, and the sizes
abbrev pub script_items : PageWishes → List ToldLine → LastStates → List ℕ
script_items wishes told last =
    element_text (codes "lines") [] (flat_map told_text told)
    ++ (element_text (codes "refused") [] (flat_map refused_text told)
    ++ (element_text (codes "states") [] (states_text told last) ++ element_text (codes "device") [] (device_text wishes)))

-- a file of a name, if it is present
abbrev pub file_item : List ℕ → List ℕ → Option (List ℕ) → List ℕ
file_item kind name (Some text) = element_text kind name text
file_item kind name None = []

abbrev pub file_items : NameAccount → List ℕ
file_items account =
    file_item (codes "net") account.name account.files.net.text
    ++ (file_item (codes "place") account.name account.files.place.text ++ file_item (codes "route") account.name account.files.route.text)

-- a text of a name of which that holds, or none
abbrev pub IsItem : (List ℕ → Type 0) → List ℕ → List ℕ → List ℕ → Type 0
IsItem IsText kind name shown = (shown ≡ []) ⊎ ((text : List ℕ) × IsText text × (shown ≡ element_text kind name text))

-- only if the name's last state is Unrouted
abbrev pub IsItemIf : Bool → (List ℕ → Type 0) → List ℕ → List ℕ → List ℕ → Type 0
IsItemIf true IsText kind name shown = IsItem IsText kind name shown
IsItemIf false IsText kind name shown = shown ≡ []

-- what the page shows of a name: its present files, perhaps the stops of its longest path, and, if
-- it is Unrouted, perhaps where its routing is overused
pub record AreItemsOf (IsOveruseOf : List ℕ → List ℕ → Type 0) (last : LastStates) (account : NameAccount) (shown : List ℕ) : Type 0 where
  pub stops : List ℕ
  pub are_stops : IsItem (ShowsPresentStops account.files) (codes "path") account.name stops
  pub overuse : List ℕ
  pub is_overuse : IsItemIf (is_unrouted last account.name) (IsOveruseOf account.name) (codes "overuse") account.name overuse
  pub are_shown : shown ≡ file_items account ++ (stops ++ overuse)

-- the lines of a script, and the architecture, which has a file of its own if that is given
abbrev pub AreLinesOf : (List ℕ → Option (List ℕ)) → Option (Bor (List ℕ)) → List ℕ → Lines → Type 0
AreLinesOf text None script lines = AreLines true script lines
AreLinesOf text (Some path) script lines = IsBeginning (text path.now) (2 ^ 64 - 1) lines.architecture.now × (lines.text.now ≡ script) × (lines.number ≡ 1)

-- the number that an option gives, if it does
abbrev pub number_in : Option (Bor (List ℕ)) → Option ℕ
number_in (Some text) = decimal_of 32 text.now
number_in None = None

-- private: the bytes in a memory sink
abbrev pub sink_text : MemorySink → List ℕ
sink_text sink = sink.bytes.items

-- private: no text is written yet
abbrev pub AreEmpty : PageTexts → Type 0
AreEmpty texts = (sink_text texts.lines ≡ []) × (sink_text texts.refused ≡ []) × (sink_text texts.states ≡ []) × (sink_text texts.device ≡ [])

-- private: the texts are those of these lines and states
abbrev pub AreTexts : List ToldLine → LastStates → PageTexts → Type 0
AreTexts told last texts =
    (sink_text texts.lines ≡ flat_map told_text told) × (sink_text texts.refused ≡ flat_map refused_text told) × (sink_text texts.states ≡ states_text told last)

-- private: those of the script's lines with their replies
abbrev pub AreScriptTexts : Lines → List AnsweredLine → LastStates → PageTexts → Type 0
AreScriptTexts lines replies last texts = (told : List ToldLine) × (refused : ℕ) × AreTold lines replies told refused × AreTexts told last texts

-- private: the elements of the texts
abbrev pub text_items : PageTexts → List ℕ
text_items texts =
    element_text (codes "lines") [] (sink_text texts.lines)
    ++ (element_text (codes "refused") [] (sink_text texts.refused)
    ++ (element_text (codes "states") [] (sink_text texts.states) ++ element_text (codes "device") [] (sink_text texts.device)))

module _ {S : Type 0} (contents : S → Option (List ℕ)) (has_failed : S → Bool) (old new : S) where
  -- private: the viewer is written around these texts
  pub record AreAround (IsOveruseOf : List ℕ → List ℕ → Type 0) (texts : List ℕ) (last : LastStates) (accounts : List NameAccount) : Type 0 where
    pub viewer : Viewer
    pub names : List ℕ
    pub are_names : AreTextsOf (AreItemsOf IsOveruseOf last) accounts names
    pub written : TakesAll contents has_failed old new (viewer.head.now ++ (texts ++ (names ++ viewer.tail.now)))

  -- private: the page of these acts with their replies is written, for that device
  pub record IsPageWith (wishes : PageWishes) (lines : Lines) (device : Option SharedDevice) (acts : List (Act (List ℕ))) (replies : List AnsweredLine) : Type 0 where
    pub last : LastStates
    pub are_last : AreLastStates acts replies last
    pub told : List ToldLine
    pub refused : ℕ
    pub are_told : AreTold lines replies told refused
    pub shown : AreAround (IsOveruse device acts replies) (script_items wishes told last) last (accounts_of acts replies)

  -- for the device that the wishes and the architecture say
  pub record IsPageOfActs (wishes : PageWishes) (lines : Lines) (acts : List (Act (List ℕ))) (replies : List AnsweredLine) : Type 0 where
    pub device : Option SharedDevice
    pub is_device : IsDevice lines.architecture.now (number_in wishes.rows) (number_in wishes.tracks) device
    pub page : IsPageWith wishes lines device acts replies

  -- the acts are those of the lines, and the replies those in the whole input, if that is known
  pub record IsPage (input : Option (List ℕ)) (wishes : PageWishes) (lines : Lines) : Type 0 where
    pub printed : List ℕ
    pub are_printed : IfSome input (λ bytes. printed ≡ bytes)
    pub acts : List (Act (List ℕ))
    pub are_acts : script_of lines.number lines.text.now ≡ Ok acts
    pub replies : List AnsweredLine
    pub are_replies : replies_in acts printed ≡ Ok replies
    pub page : IsPageOfActs wishes lines acts replies

  -- the page of the script in the file and of the replies in the input is written, and nothing else
  pub record IsPageShown (text : List ℕ → Option (List ℕ)) (input : Option (List ℕ)) (wishes : PageWishes) : Type 0 where
    pub script : List ℕ
    pub read : IsBeginning (text wishes.script.now) (2 ^ 64 - 1) script
    pub lines : Lines
    pub are_lines : AreLinesOf text wishes.arch script lines
    pub page : IsPage input wishes lines
