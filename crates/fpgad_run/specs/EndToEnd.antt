-- The answers to each name's session, by the service for a single user.
use Rattle.std.specs.Prelude.{ℕ, ◌≡◌, List, [], ◌∷◌, ◌++◌, ⊤}
use Rattle.fpgad_run.specs.Prelude.{Device, Call, Answer, LineIsToldAlone, answer_text, Act, Operator, Session, last_id, Stage}
use Rattle.fpgad_run.specs.Run.{Telling, IsAnswered}

-- a session's line that makes those calls is answered what its name's last tenancy is answered
-- alone, after its own events of the calls before
abbrev pub IsToldAlone : Device → Stage → List Call → List Call → Act (List ℕ) → List ℕ → Type 0
IsToldAlone device stage before calls (Operator line) text = ⊤
IsToldAlone device stage before calls (Session name line) text =
    (answer : Answer) × LineIsToldAlone device stage.service (last_id stage.names name) before calls line answer × (text ≡ answer_text answer)

-- so is each line, one after another
abbrev pub AreToldAlone : Device → Stage → List Call → List Telling → Type 0
AreToldAlone device stage before [] = ⊤
AreToldAlone device stage before (t ∷ ts) =
    IsToldAlone device stage before t.calls t.act t.text × ((mid : Stage) × IsAnswered stage t.act t.calls t.text mid × AreToldAlone device mid (before ++ t.calls) ts)
