-- The lines, items and replies of one name, and the replies to the operator.
use Rattle.std.specs.Prelude.{ℕ, List, [], ◌∷◌, ◌++◌, if◌then◌else◌}
use Rattle.std.specs.List.{flat_map}
use Rattle.std.specs.Str.{bytes_eq}
use Rattle.live_lines.specs.Prelude.{Act, Operator, Session, SessionLine, with_last_feed, with_feed, is_of, rest_of, tag_of}
use Rattle.live_lines.specs.Acts.{Telling}
use Rattle.live_lines.specs.Live.{count_text, is_open}

-- what the lines with that name's tag say, with an id or without
abbrev pub said_by : List ℕ → List (List ℕ) → List (List ℕ)
said_by name lines = flat_map (λ line. if is_of (64 ∷ name) (tag_of line) then rest_of line ∷ [] else []) lines

-- the act's item, if it is of that name's session
abbrev pub item_for : List ℕ → Act (List ℕ) → List SessionLine
item_for name (Operator line) = []
item_for name (Session other item) = if bytes_eq other name then item ∷ [] else []

-- the items of that name's session, in order
abbrev pub items_for : List ℕ → List Telling → List SessionLine
items_for name tellings = flat_map (λ t. item_for name t.act) tellings

-- the act's reply, if it is for that name's session
abbrev pub reply_for : List ℕ → Act (List ℕ) → List ℕ → List ℕ
reply_for name (Operator line) text = []
reply_for name (Session other item) text = if bytes_eq other name then text else []

-- the replies for that name's session, in order
abbrev pub replies_for : List ℕ → List Telling → List ℕ
replies_for name tellings = flat_map (λ t. reply_for name t.act t.text) tellings

-- the act's reply, if it is for the operator; if the number of its lines is open, a line with that
-- number comes first
abbrev pub reply_for_operator : Act (List ℕ) → List ℕ → List ℕ
reply_for_operator (Operator line) text = if is_open line then with_feed (count_text text) ++ with_last_feed text else with_last_feed text
reply_for_operator (Session name item) text = []

abbrev pub replies_for_operator : List Telling → List ℕ
replies_for_operator tellings = flat_map (λ t. reply_for_operator t.act t.text) tellings
