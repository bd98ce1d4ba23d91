-- More workers never change what a session is answered that waits for each of its jobs.
use Rattle.std.specs.Prelude.{ℕ, ◌≡◌, false, true, List, [], ◌∷◌, map, All, IfSome, Some, if◌then◌else◌}
use Rattle.std.specs.Str.{bytes_eq}
use Rattle.same_answers.specs.Prelude.{start, ServiceState, empty_service, live_width, strip_on, own_graph, told_text, Act, Operator, Session, Section, section_of, last_id, Stage, Conversation, items_by, IsReply, waits_for_each, waited_text, Architecture, Options, AreThreadedReplies, threaded_start_of, IsReplies, Start, device_of, start_of, Telling, Tells, sections_after}
use Rattle.same_answers.specs.InOrder.{AreLeftAlone, AreRepliedTo}

-- the acts from the first session's line on
abbrev pub from_session : List (Act (List ℕ)) → List (Act (List ℕ))
from_session [] = []
from_session (Operator line ∷ acts) = from_session acts
from_session (Session name item ∷ acts) = Session name item ∷ acts

-- the stage in which the first session's line is answered, without workers
abbrev pub if_session : Act (List ℕ) → Stage → Stage → Stage
if_session (Operator line) now later = later
if_session (Session name item) now later = now

abbrev pub stage_at_session : (old : Stage) (tellings : List Telling) (new : Stage) → Tells old tellings new → Stage
stage_at_session old [] new tells = old
stage_at_session old (t ∷ tellings) new tells = if_session t.act old (stage_at_session tells.0 tellings new tells.2)

abbrev pub session_stage : {options : Options} {start : Start (List (Act (List ℕ)))} {output : List ℕ} → IsReplies options start output → Stage
session_stage {options} r = stage_at_session (record { names = []; jobs = []; service = empty_service (device_of options r.arch); graph = own_graph (device_of options r.arch) }) r.tellings r.last r.told

-- the name's last tenancy is live, in a strip of that width
abbrev pub HasStrip : List ℕ → ℕ → List (List ℕ) → ServiceState → Type 0
HasStrip name width names service = live_width service.histories (last_id names name) ≡ Some width

-- with workers, no answer to the name's session says that memory ran out or that the journal is
-- full
abbrev pub IsRepliedIn : List ℕ → Conversation → Type 0
IsRepliedIn name c = bytes_eq name c.said.name ≡ true → IfSome c.told (All (λ t. IsReply (told_text t)))

-- the text of the name's section of what is written
abbrev pub text_of : List ℕ → List Section → List ℕ
text_of name [] = []
text_of name (s ∷ sections) = if bytes_eq name s.name then s.text else text_of name sections

-- two command lines that may differ in the number of workers alone
abbrev pub HaveSameDevice : Options → Options → Type 0
HaveSameDevice options other = (options.tracks ≡ other.tracks) × (options.columns ≡ other.columns) × (options.rows ≡ other.rows)

-- One script is served without workers and with any number of them. If a name's session waits for
-- each of its jobs, if nobody evicts its tenancy before its last item, if in both runs its strip
-- has that width when the first session's line is answered, and if no answer to it says that memory
-- ran out or that the journal is full, then its section of what is written has the same text in
-- both runs: `waited_text` of its items.
abbrev pub HasSameAnswers : Type 0
HasSameAnswers = (options other : Options) (architecture : Architecture) (input output other_output name : List ℕ) (width : ℕ) → HaveSameDevice options other →
    (r : IsReplies options (start_of options.tracks architecture input) output) (s : AreThreadedReplies other (threaded_start_of other.tracks architecture input) other_output) →
    waits_for_each false (items_by name r.acts) ≡ true → AreLeftAlone name (from_session r.acts) →
    HasStrip name width (session_stage r).names (session_stage r).service → HasStrip name width s.served.names s.served.service →
    AreRepliedTo name r.tellings → All (IsRepliedIn name) s.served.ran.conversations →
    (text_of name (sections_after [] r.tellings) ≡ waited_text (start r.arch (strip_on (device_of options r.arch) width)) (items_by name r.acts))
    × (text_of name (map section_of s.answered.sections.items) ≡ waited_text (start r.arch (strip_on (device_of options r.arch) width)) (items_by name r.acts))
