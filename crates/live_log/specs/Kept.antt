-- The lines of a shorter log.
use Rattle.std.specs.Prelude.{ℕ, Bool, true, false, List, [], ◌∷◌, ◌++◌, codes, map}
use Rattle.std.specs.List.{flat_map}
use Rattle.live_log.specs.Prelude.{texts, physical_lines, with_feed}
use Rattle.live_log.specs.declared.short_log.ShortLog.{ShortLog}

-- those of the lines that are kept
abbrev pub lines_kept : List Bool → List (List ℕ) → List (List ℕ)
lines_kept [] lines = []
lines_kept (kept ∷ others) [] = []
lines_kept (true ∷ others) (line ∷ lines) = line ∷ lines_kept others lines
lines_kept (false ∷ others) (line ∷ lines) = lines_kept others lines

-- the comment that says a name's last tag with an id
abbrev pub last_line : List ℕ → List ℕ
last_line tag = codes "# last " ++ tag

-- the lines of a shorter log: those of the log that are kept, and the last tag of each name
abbrev pub lines_in : ShortLog → List (List ℕ)
lines_in short = lines_kept short.kept.items (physical_lines short.log.now) ++ map last_line (texts short.last.items)

-- Private: a line with its end, if it is kept.
abbrev pub line_if : Bool → List ℕ → List ℕ
line_if true line = with_feed line
line_if false line = []

-- Private: the lines that are kept, each ended by LF.
abbrev pub kept_lines : List Bool → List (List ℕ) → List ℕ
kept_lines kept lines = flat_map with_feed (lines_kept kept lines)
