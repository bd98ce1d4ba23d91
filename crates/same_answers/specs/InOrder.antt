-- Without workers, what a session is answered that waits for each of its jobs.
use Rattle.std.specs.Prelude.{ℕ, ◌≡◌, ◌⊎◌, ⊤, false, true, List, [], ◌∷◌, ◌++◌, map, Some, if◌then◌else◌}
use Rattle.std.specs.Str.{bytes_eq}
use Rattle.same_answers.specs.Prelude.{start, Device, own_events, Call, Run, empty_service, live_width, strip_on, Act, Operator, Session, Evict, Step, Take, last_id, HasOwnGraph, Stage, items_by, IsReply, waits_for_each, waited_text, Telling, Tells}

-- the act doesn't evict the name's tenancy, and steps or takes no job of it by hand
abbrev pub IsLeftAlone : List ℕ → Act (List ℕ) → Type 0
IsLeftAlone name (Operator (Evict other)) = bytes_eq name other ≡ false
IsLeftAlone name (Operator (Step other count)) = bytes_eq name other ≡ false
IsLeftAlone name (Operator (Take other)) = bytes_eq name other ≡ false
IsLeftAlone name act = ⊤

-- nor do the acts before the last item of the name's session
abbrev pub AreLeftAlone : List ℕ → List (Act (List ℕ)) → Type 0
AreLeftAlone name [] = ⊤
AreLeftAlone name (act ∷ acts) = (items_by name (act ∷ acts) ≡ []) ⊎ (IsLeftAlone name act × AreLeftAlone name acts)

-- what the name's session is answered
abbrev pub answer_for : List ℕ → Act (List ℕ) → List ℕ → List ℕ
answer_for name (Operator line) text = []
answer_for name (Session other item) text = if bytes_eq name other then text else []

abbrev pub answers_for : List ℕ → List Telling → List ℕ
answers_for name [] = []
answers_for name (t ∷ tellings) = answer_for name t.act t.text ++ answers_for name tellings

-- no answer to it says that memory ran out or that the journal is full
abbrev pub IsRepliedTo : List ℕ → Act (List ℕ) → List ℕ → Type 0
IsRepliedTo name (Operator line) text = ⊤
IsRepliedTo name (Session other item) text = bytes_eq name other ≡ true → IsReply text

abbrev pub AreRepliedTo : List ℕ → List Telling → Type 0
AreRepliedTo name [] = ⊤
AreRepliedTo name (t ∷ tellings) = IsRepliedTo name t.act t.text × AreRepliedTo name tellings

abbrev pub acts_of : List Telling → List (Act (List ℕ))
acts_of tellings = map (λ t. t.act) tellings

-- From a stage in which nothing has happened yet to the name's live tenancy, its session is
-- answered `waited_text` of its items, whatever else the acts say, if they leave it alone. The
-- steps are made on the device's own graph, as those of the program are.
abbrev pub HasTextInOrder : Type 0
HasTextInOrder = (device : Device) (before : List Call) (old new : Stage) (name : List ℕ) (width : ℕ) (tellings : List Telling) →
    Run (empty_service device) before old.service → HasOwnGraph old → own_events (last_id old.names name) before ≡ [] → live_width old.service.histories (last_id old.names name) ≡ Some width → Tells old tellings new →
    waits_for_each false (items_by name (acts_of tellings)) ≡ true → AreLeftAlone name (acts_of tellings) → AreRepliedTo name tellings →
    answers_for name tellings ≡ waited_text (start device.arch (strip_on device width)) (items_by name (acts_of tellings))
