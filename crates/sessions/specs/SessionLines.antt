-- What a session's line asks.
use Rattle.std.specs.Prelude.{ℕ, List, [], ◌∷◌, length, codes, nat_lt, Option, Some, if◌then◌else◌}
use Rattle.std.specs.Str.{bytes_eq}
use Rattle.sessions.specs.declared.line.TheConstants.{MAX_SESSION_LINE}
use Rattle.sessions.specs.Prelude.{decimal_of, words_of, Command as TenantCommand, Upload as UploadText, Change as ChangeText, Pack, Place, Route, Cancel, Withdraw, Status, Net, PlaceFile, RouteFile}
use Rattle.sessions.specs.declared.refusal.SessionRefusal.TheVariants.{UnknownCommand, BadNumber}
use Rattle.sessions.specs.declared.line.SessionLine.{SessionLine}
use Rattle.sessions.specs.declared.line.SessionLine.TheVariants.{Blank, Command, Wait, Refused}
use Rattle.sessions.specs.declared.line.TextKind.{TextKind}
use Rattle.sessions.specs.declared.line.TextKind.TheVariants.{Upload, Change}
use Rattle.sessions.specs.declared.line.LineForm.{LineForm}
use Rattle.sessions.specs.declared.line.LineForm.TheVariants.{Asks, Begins}

-- a placing with that seed and effort
abbrev pub placing : Option ℕ → Option ℕ → SessionLine
placing (Some seed) (Some effort) = Command (Place seed effort)
placing seed effort = Refused BadNumber

-- the words after `place`: a seed of 64 bits and an effort of 32
abbrev pub place_line : List (List ℕ) → SessionLine
place_line (seed ∷ effort ∷ []) = placing (decimal_of 64 seed) (decimal_of 32 effort)
place_line words = Refused BadNumber

-- a line of one word
abbrev pub verb_form : List ℕ → LineForm
verb_form verb =
    if bytes_eq verb (codes "upload") then Begins Upload else
    if bytes_eq verb (codes "change") then Begins Change else
    if bytes_eq verb (codes "pack") then Asks (Command Pack) else
    if bytes_eq verb (codes "route") then Asks (Command Route) else
    if bytes_eq verb (codes "cancel") then Asks (Command Cancel) else
    if bytes_eq verb (codes "withdraw") then Asks (Command Withdraw) else
    if bytes_eq verb (codes "status") then Asks (Command Status) else
    if bytes_eq verb (codes "net") then Asks (Command Net) else
    if bytes_eq verb (codes "placefile") then Asks (Command PlaceFile) else
    if bytes_eq verb (codes "routefile") then Asks (Command RouteFile) else
    if bytes_eq verb (codes "wait") then Asks Wait else
    Asks (Refused UnknownCommand)

-- a word that must be the only one of its line
abbrev pub alone_form : List ℕ → List (List ℕ) → LineForm
alone_form verb [] = verb_form verb
alone_form verb words = Asks (Refused UnknownCommand)

-- a line's first word and the others
abbrev pub filled_form : List ℕ → List (List ℕ) → LineForm
filled_form verb words = if bytes_eq verb (codes "place") then Asks (place_line words) else alone_form verb words

-- the words of a line, which has that length
abbrev pub words_form : ℕ → List (List ℕ) → LineForm
words_form length [] = Asks Blank
words_form length (verb ∷ words) = if nat_lt MAX_SESSION_LINE length then Asks (Refused UnknownCommand) else filled_form verb words

-- what a line without its end asks
abbrev pub line_form : List ℕ → LineForm
line_form line = words_form (length line) (words_of line)

-- the command with its text
abbrev pub text_command : TextKind → List ℕ → TenantCommand
text_command Upload text = UploadText text
text_command Change text = ChangeText text
