-- The names and texts that can't be written in a script.
use Rattle.std.specs.Prelude.{ℕ, ◌+◌, ◌-◌, List, [], ◌∷◌, ◌++◌, length, nat_le, Option, Some, None, if◌then◌else◌}
use Rattle.std.specs.List.{flat_map}
use Rattle.line_text.specs.declared.lines.TheConstants.{MAX_TEXT}
use Rattle.line_text.specs.Lines.{physical_lines}
use Rattle.sessions.specs.Items.{without_cr, ends_text}
use Rattle.script_text.specs.Script.{is_name}
use Rattle.tenancy_script.specs.declared.fault.ScriptFault.{ScriptFault}
use Rattle.tenancy_script.specs.declared.fault.ScriptFault.TheVariants.{BadName, PointAlone, TextTooLong}

-- the text as it is uploaded: its lines, each ended by LF, without the CR before it
abbrev pub uploaded_text : List ℕ → List ℕ
uploaded_text text = flat_map (λ line. without_cr line ++ 10 ∷ []) (physical_lines text)

-- the first line that can't be uploaded, if that number of bytes may still come: it is only `.`, or
-- with it the text has too many bytes
abbrev pub fault_from : ℕ → ℕ → List (List ℕ) → Option ScriptFault
fault_from number room [] = None
fault_from number room (line ∷ lines) =
    if ends_text line then Some (PointAlone number) else
    if nat_le room (length (without_cr line)) then Some (TextTooLong number) else
    fault_from (number + 1) (room - (length (without_cr line) + 1)) lines

-- a text has at most 1,048,576 bytes
abbrev pub text_fault : List ℕ → Option ScriptFault
text_fault text = fault_from 1 MAX_TEXT (physical_lines text)

-- why a name and a text have no script
abbrev pub refusal_of : List ℕ → List ℕ → Option ScriptFault
refusal_of name text = if is_name name then text_fault text else Some BadName
