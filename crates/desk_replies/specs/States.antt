-- The states of names, by the replies to a script.
use Rattle.std.specs.Prelude.{ℕ, ◌≡◌, ◌+◌, List, [], ◌∷◌, ◌++◌, map, drop, codes, ◌||◌, Bool, false, if◌then◌else◌}
use Rattle.std.specs.Borrow.{Bor}
use Rattle.std.specs.List.{fold, position_or_len}
use Rattle.std.specs.Map.{lookup}
use Rattle.std.specs.Option.{option_map_or}
use Rattle.std.specs.Str.{bytes_eq}
use Rattle.desk_replies.specs.Prelude.{insert_entry, physical_lines, first_line, is_blank, AnsweredLine, first_word, without_blanks, Act, Operator, Session, OperatorLine, Admit, Evict, Move, List as ListAll, Owners, Step, Take, Put}
use Rattle.desk_replies.specs.declared.states.NameState.{NameState}

-- the state that a name is in after the act of that number
pub record StateAfter : Type 0 where
  pub name : List ℕ
  pub state : List ℕ
  pub act : ℕ

abbrev pub state_after : NameState → StateAfter
state_after one = record { name = one.name.now; state = one.state.now; act = one.act }

-- a list with the state, or without it
abbrev pub state_if : Bool → StateAfter → List StateAfter
state_if is_there one = if is_there then one ∷ [] else []

-- what comes after the first word of a line, and its second word
abbrev pub after_word : List ℕ → List ℕ
after_word line = drop (position_or_len is_blank (without_blanks line)) (without_blanks line)

abbrev pub second_word : List ℕ → List ℕ
second_word line = first_word (after_word line)

abbrev pub begins_with : List ℕ → List ℕ → Bool
begins_with line word = bytes_eq (first_word line) word

-- a session's reply `ok STATE` or `status STATE ..` has the state
abbrev pub session_states : ℕ → List ℕ → List ℕ → List StateAfter
session_states act name reply =
    state_if (begins_with (first_line reply) (codes "ok") || begins_with (first_line reply) (codes "status"))
    (record { name = name; state = second_word (first_line reply); act = act })

-- after an admission or an eviction with the reply `ok ..` a name is in that state
abbrev pub granted_states : ℕ → List ℕ → List ℕ → List ℕ → List StateAfter
granted_states act name state reply = state_if (begins_with (first_line reply) (codes "ok")) (record { name = name; state = state; act = act })

-- a line of `op list`: `ID NAME OFFSET WIDTH STATE`
abbrev pub listed_state : ℕ → List ℕ → StateAfter
listed_state act line = record { name = second_word line; state = second_word (after_word (after_word (after_word line))); act = act }

abbrev pub operator_states : ℕ → OperatorLine (List ℕ) → List ℕ → List StateAfter
operator_states act (Admit name width) reply = granted_states act name (codes "Empty") reply
operator_states act (Evict name) reply = granted_states act name (codes "Evicted") reply
operator_states act ListAll reply = map (listed_state act) (physical_lines reply)
operator_states act (Move name offset) reply = []
operator_states act Owners reply = []
operator_states act (Step name count) reply = []
operator_states act (Take name) reply = []
operator_states act (Put number) reply = []

abbrev pub states_in : ℕ → Act (List ℕ) → List ℕ → List StateAfter
states_in act (Operator line) reply = operator_states act line reply
states_in act (Session name line) reply = session_states act name reply

-- the states after all acts, in order; the first act has that number
abbrev pub states_from : ℕ → List (Act (List ℕ)) → List AnsweredLine → List StateAfter
states_from number [] replies = []
states_from number (act ∷ acts) [] = []
states_from number (act ∷ acts) (line ∷ replies) = states_in number act line.reply ++ states_from (number + 1) acts replies

-- each name with its last state, in the order of the first ones
abbrev pub same_name : Bor (List ℕ) → Bor (List ℕ) → Bool
same_name one other = bytes_eq one.now other.now

abbrev pub last_states : List NameState → List (Bor (List ℕ) × NameState)
last_states states = fold (λ last one. insert_entry same_name last one.name one) [] states

abbrev pub LastStates : Type 0
LastStates = List (Bor (List ℕ) × NameState)

-- these are the last states of names after acts with these replies
pub record AreLastStates (acts : List (Act (List ℕ))) (replies : List AnsweredLine) (last : LastStates) : Type 0 where
  pub states : List NameState
  pub are_after : map state_after states ≡ states_from 0 acts replies
  pub are_last : last ≡ last_states states

-- whether the last state of a name is Unrouted
abbrev pub is_unrouted : LastStates → List ℕ → Bool
is_unrouted last name = option_map_or (λ one. bytes_eq one.state.now (codes "Unrouted")) (lookup (λ (key : Bor (List ℕ)). bytes_eq name key.now) last) false
