-- Who speaks through a front, what is handed over for him, and what he is told.
use Rattle.std.specs.Prelude.{ℕ, Bool, false, ◌&&◌, List, [], ◌++◌, codes, fold, if◌then◌else◌}
use Rattle.std.specs.Str.{bytes_eq}
use Rattle.front_lines.specs.Prelude.{rest_of, tag_of, with_feed}
use Rattle.front_lines.specs.declared.speaker.Speaker.{Speaker}
use Rattle.front_lines.specs.declared.speaker.Speaker.TheVariants.{Operator, Tenant}

-- the tag of each line that is handed over
abbrev pub tag_in : Speaker → List ℕ
tag_in (Tenant tag) = tag.items
tag_in (Operator id) = codes "op"

-- what the operator says to mark a place, with its LF
abbrev pub mark_line : List ℕ → List ℕ → List ℕ
mark_line id words = codes "echo " ++ id ++ words

-- what is handed over for a command, without tags: the operator's command is between two marks
abbrev pub with_marks : Speaker → List ℕ → List ℕ
with_marks (Tenant tag) command = command
with_marks (Operator id) command = mark_line id.items (codes " begins\n") ++ command ++ mark_line id.items (codes " ends\n")

-- a line of the service's output is the reply to a mark
abbrev pub is_mark : List ℕ → List ℕ → List ℕ → Bool
is_mark id word line = bytes_eq (tag_of line) (codes "op") && bytes_eq (tag_of (rest_of line)) id && bytes_eq (rest_of (rest_of line)) word

-- a reply begins after that line: what came before is none of it
abbrev pub is_first : Speaker → List ℕ → Bool
is_first (Tenant tag) line = false
is_first (Operator id) line = is_mark id.items (codes "begins") line

-- a reply ends with that line: `done TAG`, or the second mark
abbrev pub is_last : Speaker → List ℕ → Bool
is_last (Tenant tag) line = bytes_eq (tag_of line) (codes "done") && bytes_eq (rest_of line) tag.items
is_last (Operator id) line = is_mark id.items (codes "ends") line

-- what a line of the service's output says to the client: a line with its tag, without the tag. To
-- the operator a line `? N` is told, too: between his marks it is of his own line
abbrev pub own_line : Speaker → List ℕ → List ℕ
own_line (Tenant tag) line = if bytes_eq (tag_of line) tag.items then with_feed (rest_of line) else []
own_line (Operator id) line =
    if is_mark id.items (codes "ends") line then [] else if bytes_eq (tag_of line) (codes "op") then with_feed (rest_of line) else if bytes_eq (tag_of line) (codes "?") then with_feed line else []

-- what a client is told after such a line
abbrev pub told_after : Speaker → List ℕ → List ℕ → List ℕ
told_after who reply line = if is_first who line then [] else reply ++ own_line who line

-- and after such lines
abbrev pub own_text : Speaker → List (List ℕ) → List ℕ
own_text who seen = fold (told_after who) [] seen
