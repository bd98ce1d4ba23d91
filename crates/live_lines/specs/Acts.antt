-- The answers to acts, one after another. The definitions are those of the acts of a script, in
-- `Run` of `fpgad_run`, a crate that this one doesn't use.
use Rattle.std.specs.Prelude.{ℕ, ◌≡◌, List, [], ◌∷◌}
use Rattle.std.specs.List.{flat_map}
use Rattle.live_lines.specs.Prelude.{Call, Run, Answer, Asks, LeavesNone, answer_text, Act, Operator, Session, last_id, HasOwnGraph, Stage, IsServed}

-- an act makes those calls of the core and is answered that text; on the device's own graph a wait
-- leaves no step undone
abbrev pub IsAnswered : Stage → Act (List ℕ) → List Call → List ℕ → Stage → Type 0
IsAnswered old (Operator line) calls text new = IsServed old line calls text new
IsAnswered old (Session name line) calls text new = (answer : Answer)
    × Asks (last_id old.names name) line calls answer × Run old.service calls new.service × (new.names ≡ old.names)
    × (new.jobs ≡ old.jobs) × (text ≡ answer_text answer)
    × (new.graph ≡ old.graph) × (HasOwnGraph old → LeavesNone (last_id old.names name) line calls answer new.service)

-- an act with its calls and its text
pub record Telling : Type 0 where
  pub act : Act (List ℕ)
  pub calls : List Call
  pub text : List ℕ

-- acts are answered so, one after another
abbrev pub Tells : Stage → List Telling → Stage → Type 0
Tells old [] new = new ≡ old
Tells old (t ∷ ts) new = (mid : Stage) × IsAnswered old t.act t.calls t.text mid × Tells mid ts new

-- all calls of the core, in order
abbrev pub calls_of : List Telling → List Call
calls_of tellings = flat_map (λ t. t.calls) tellings
