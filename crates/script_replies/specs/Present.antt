-- The netlist that a name has, and its files that are present: printed for what it has now.
use Rattle.std.specs.Prelude.{ℕ, Bool, false, ◌||◌, List, fold, codes, is_some, Option, Some, None, option_map, if◌then◌else◌}
use Rattle.std.specs.List.{zip}
use Rattle.std.specs.Option.{option_map_or}
use Rattle.std.specs.Str.{bytes_eq}
use Rattle.script_replies.specs.Prelude.{Act, Operator, Session, OperatorLine, Admit, Evict, SessionLine, Command, Upload, Change, Pack, Place, Route, Cancel, Withdraw, Status, Net, PlaceFile, RouteFile, file_in, AnsweredLine}
use Rattle.tenant_slot.specs.declared.command.Command.{Command as TenantCommand}
use Rattle.script_replies.specs.Usage.{is_refusal}
use Rattle.script_replies.specs.declared.present.NameFiles.{NameFiles}
use Rattle.script_replies.specs.declared.present.PrintedFile.{PrintedFile}

-- a file of one kind: its text if it is present, and whether one was printed that no longer is
pub record FileState : Type 0 where
  pub text : Option (List ℕ)
  pub outdated : Bool

pub record FileStates : Type 0 where
  pub netlist : Option (List ℕ)
  pub net : FileState
  pub place : FileState
  pub route : FileState

abbrev pub no_file : FileState
no_file = record { text = None; outdated = false }

abbrev pub no_files : FileStates
no_files = record { netlist = None; net = no_file; place = no_file; route = no_file }

-- a file that was printed is no longer present
abbrev pub outdate : FileState → FileState
outdate file = record { text = None; outdated = file.outdated || is_some file.text }

-- a reply with a file of the kind makes it present
abbrev pub with_printed : List ℕ → List ℕ → FileState → FileState
with_printed kind reply file = option_map_or (λ text. record { text = Some text; outdated = false }) (file_in kind reply) file

-- another netlist, or none: no file is of it
abbrev pub with_netlist : Option (List ℕ) → FileStates → FileStates
with_netlist netlist files = record { netlist = netlist; net = outdate files.net; place = outdate files.place; route = outdate files.route }

-- another routing
abbrev pub without_route : FileStates → FileStates
without_route files = record files { route = outdate files.route }

-- after a command of the name that is not refused
abbrev pub after_command : TenantCommand → List ℕ → FileStates → FileStates
after_command (Upload text) reply files = with_netlist (Some text) files
after_command (Change text) reply files = with_netlist (Some text) files
after_command Withdraw reply files = with_netlist None files
after_command Pack reply files = with_netlist files.netlist files
after_command (Place seed effort) reply files = record (without_route files) { place = outdate files.place }
after_command Route reply files = without_route files
after_command Net reply files = record files { net = with_printed (codes "net") reply files.net }
after_command PlaceFile reply files = record files { place = with_printed (codes "place") reply files.place }
after_command RouteFile reply files = record files { route = with_printed (codes "route") reply files.route }
after_command Cancel reply files = files
after_command Status reply files = files

-- an admission begins with nothing, and an eviction leaves nothing
abbrev pub after_operator : List ℕ → OperatorLine (List ℕ) → FileStates → FileStates
after_operator name (Admit own columns) files = if bytes_eq own name then with_netlist None files else files
after_operator name (Evict own) files = if bytes_eq own name then with_netlist None files else files
after_operator name line files = files

abbrev pub after_line : SessionLine → List ℕ → FileStates → FileStates
after_line (Command command) reply files = after_command command reply files
after_line line reply files = files

abbrev pub after_act : List ℕ → Act (List ℕ) → List ℕ → FileStates → FileStates
after_act name (Operator line) reply files = after_operator name line files
after_act name (Session own line) reply files = if bytes_eq own name then after_line line reply files else files

-- a line that is refused changes nothing
abbrev pub files_after : List ℕ → Act (List ℕ) → List ℕ → FileStates → FileStates
files_after name act reply files = if is_refusal reply then files else after_act name act reply files

-- the files of a name, after these acts with their replies
abbrev pub files_in : List ℕ → List (Act (List ℕ) × AnsweredLine) → FileStates
files_in name pairs = fold (λ files pair. files_after name pair.0 pair.1.reply files) no_files pairs

abbrev pub files_of : List ℕ → List (Act (List ℕ)) → List AnsweredLine → FileStates
files_of name acts replies = files_in name (zip acts replies)

-- the values of a name's files
abbrev pub state_of : PrintedFile → FileState
state_of file = record { text = option_map (λ text. text.now) file.text; outdated = file.is_outdated }

abbrev pub states_of : NameFiles → FileStates
states_of files = record { netlist = option_map (λ text. text.now) files.netlist; net = state_of files.net; place = state_of files.place; route = state_of files.route }
