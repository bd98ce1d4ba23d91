-- The bytes of a tenancy's script.
use Rattle.std.specs.Prelude.{ℕ, List, [], ◌∷◌, ◌++◌, codes, decimal, Bool, true, ◌==◌, Option, Some, None, if◌then◌else◌}
use Rattle.tenancy_script.specs.declared.script.TenancyScript.{TenancyScript}

-- the last line of a text ends with LF
abbrev pub is_ended : List ℕ → Bool
is_ended [] = true
is_ended (b ∷ []) = b == 10
is_ended (b ∷ c ∷ text) = is_ended (c ∷ text)

-- the LF that is added to a text whose last line has none
abbrev pub last_feed : List ℕ → List ℕ
last_feed text = if is_ended text then [] else 10 ∷ []

-- the operator's line, if there is a width
abbrev pub printed_admission : Option ℕ → List ℕ → List ℕ
printed_admission (Some width) name = codes "op admit " ++ (name ++ 32 ∷ (decimal width ++ 10 ∷ []))
printed_admission None name = []

-- a line of that name's session, and the rest after it
abbrev pub session_line : List ℕ → List ℕ → List ℕ → List ℕ
session_line name words more = 64 ∷ (name ++ 32 ∷ (words ++ 10 ∷ more))

-- the upload of a text: its lines, up to one that is only `.`
abbrev pub printed_upload : List ℕ → List ℕ → List ℕ
printed_upload name text = session_line name (codes "upload") (text ++ (last_feed text ++ 46 ∷ 10 ∷ []))

-- the lines after the placing: the steps of the jobs, and the files
abbrev pub printed_end : List ℕ → List ℕ
printed_end name =
    session_line name (codes "wait") (session_line name (codes "route") (session_line name (codes "wait")
    (session_line name (codes "net") (session_line name (codes "placefile") (session_line name (codes "routefile") [])))))

-- the line of a placing, and the rest after it
abbrev pub place_line : List ℕ → ℕ → ℕ → List ℕ → List ℕ
place_line name seed effort more = 64 ∷ (name ++ (codes " place " ++ (decimal seed ++ 32 ∷ (decimal effort ++ 10 ∷ more))))

-- the lines after the upload
abbrev pub printed_commands : List ℕ → ℕ → ℕ → List ℕ
printed_commands name seed effort = session_line name (codes "pack") (session_line name (codes "wait") (place_line name seed effort (printed_end name)))

-- the script: the operator's line, the upload, and the commands
abbrev pub printed_script : TenancyScript → List ℕ
printed_script script =
    printed_admission script.width script.name.now ++ (printed_upload script.name.now script.text.now ++ printed_commands script.name.now script.seed script.effort)
