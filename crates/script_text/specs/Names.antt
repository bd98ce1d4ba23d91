-- Private: the names of sessions in the order of their first lines.
use Rattle.std.specs.Prelude.{ℕ, ◌≡◌, List, map}
use Rattle.script_text.specs.declared.inputs.SessionInput.{SessionInput}
use Rattle.script_text.specs.declared.inputs.Sessions.{Sessions}

-- the names of the sessions
abbrev pub names_in : List SessionInput → List (List ℕ)
names_in said = map (λ s. s.name.now) said

-- the names are those of the sessions, in order
abbrev pub AreNamed : Sessions → Type 0
AreNamed sessions = sessions.names ≡ names_in sessions.said.items
