-- What a client is answered.
use Rattle.std.specs.Prelude.{ℕ, ◌≡◌, Bool, true, false, List, [], ◌∷◌, ◌++◌, codes, if◌then◌else◌}
use Rattle.front_lines.specs.Speakers.{is_last, own_text}
use Rattle.front_lines.specs.Commands.{ClientState, Item, item_of, state_after}
use Rattle.front_lines.specs.Commands.Item.{Nothing, HandOver, Refuse}
use Rattle.front_lines.specs.declared.speaker.Speaker.{Speaker}
use Rattle.front_lines.specs.declared.refusal.Refusal.{Refusal}
use Rattle.front_lines.specs.declared.refusal.Refusal.TheVariants.{EndsInput, LineTooLong, TextTooLong}

abbrev pub refusal_text : Refusal → List ℕ
refusal_text LineTooLong = codes "front: the line is too long\n"
refusal_text TextTooLong = codes "front: the netlist is too long\n"
refusal_text EndsInput = codes "front: say op end to the service itself\n"

-- the last of these lines, and no other, says that the reply is whole
abbrev pub ends_reply : Speaker → List (List ℕ) → Bool
ends_reply who [] = false
ends_reply who (line ∷ []) = is_last who line
ends_reply who (line ∷ next ∷ lines) = if is_last who line then false else ends_reply who (next ∷ lines)

-- while a command is asked, lines of the service's output are seen up to the end of its reply
abbrev pub Asks : Speaker → Item → List (List ℕ) → Type 0
Asks who Nothing seen = seen ≡ []
Asks who (HandOver command) seen = ends_reply who seen ≡ true
Asks who (Refuse refusal) seen = seen ≡ []

-- what the client is answered then
abbrev pub told_for : Speaker → Item → List (List ℕ) → List ℕ
told_for who Nothing seen = []
told_for who (HandOver command) seen = own_text who seen
told_for who (Refuse refusal) seen = refusal_text refusal

-- for these lines of a client, those lines of the service's output are seen, and this is its answer
abbrev pub AreTold : Speaker → ClientState → List (List ℕ) → List (List ℕ) → List ℕ → Type 0
AreTold who state [] seen told = (seen ≡ []) × (told ≡ [])
AreTold who state (line ∷ lines) seen told = (own others : List (List ℕ)) × (later : List ℕ)
    × Asks who (item_of state line) own × (seen ≡ own ++ others) × (told ≡ told_for who (item_of state line) own ++ later) × AreTold who (state_after state line) lines others later
