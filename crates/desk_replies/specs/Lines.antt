-- The lines of a script after its architecture.
use Rattle.std.specs.Prelude.{ℕ, ◌≡◌, ◌⊎◌, Bool, true, false, List, []}
use Rattle.desk_replies.specs.Prelude.{HasNoEnd, IsCut}
use Rattle.desk_replies.specs.declared.lines.Lines.{Lines}

-- all lines
pub record AreAllLines (script : List ℕ) (lines : Lines) : Type 0 where
  pub text : lines.text.now ≡ script
  pub architecture : lines.architecture.now ≡ []
  pub number : lines.number ≡ 1

-- those after the architecture, if there is one and it ends
abbrev pub AreLines : Bool → List ℕ → Lines → Type 0
AreLines false script lines = AreAllLines script lines
AreLines true script lines = IsCut 1 script lines.architecture.now lines.number lines.text.now ⊎ (HasNoEnd 1 script × AreAllLines script lines)
