-- What the tool reads and prints.
use Rattle.std.specs.Prelude.{ℕ, ◌≡◌, ◌≢◌, ◌+◌, ◌-◌, ◌^◌, ◌⊎◌, Bool, true, false, List, take, Option, Some, None, Ok, Err, codes, eqb, ⊤}
use Rattle.std.specs.List.{starts_with}
use Rattle.desk_log.specs.Prelude.{Arch, arch_of, MAX_TEXT, kept_lines, heading, device_of, first_differing, no_lines, whole_bytes, Options, Given, number_of, text_of, IsBeginning, Outcome, ArchRefused, FileFailed, LogDiffers, NoMemory, OutputFailed, FileRole, Architecture, Log}
use Rattle.desk_log.specs.Printed.{IsPrinted}
use Rattle.desk_log.specs.declared.log_tool.LogWishes.{LogWishes}

-- each path and each number is that of its option
pub record IsAskedFor (given : Given) (wishes : LogWishes) : Type 0 where
  pub arch : text_of given (codes "arch") ≡ Some wishes.arch.now
  pub log : text_of given (codes "log") ≡ Some wishes.log.now
  pub tracks : number_of 32 given (codes "tracks") ≡ Some wishes.options.tracks
  pub columns : number_of 32 given (codes "columns") ≡ Some wishes.options.columns
  pub rows : number_of 32 given (codes "rows") ≡ Some wishes.options.rows
  pub memory : number_of 32 given (codes "tenant-memory") ≡ Some wishes.options.tenant_memory

-- a log without a last line that has no end
abbrev pub whole_lines : List ℕ → List ℕ
whole_lines log = take (whole_bytes log) log

-- a log that a service made begins otherwise than those of these options and that architecture
abbrev pub BeginsOtherwise : Options → List ℕ → List ℕ → Type 0
BeginsOtherwise options architecture log = (starts_with eqb log (codes "# fpgad_live ") ≡ true) × (starts_with eqb log (heading options architecture) ≡ false)

-- The text is what is printed of the whole lines of that log of a service with these options, over
-- the architecture of that text. They begin as this service's do, if a service made them, and none
-- of them says another sum than that of the lines before it.
pub record IsShortened (options : Options) (architecture log text : List ℕ) : Type 0 where
  pub arch : Arch
  pub arch_is : arch_of architecture options.tracks ≡ Ok arch
  pub begins : BeginsOtherwise options architecture (whole_lines log) → ⊥
  pub sums : first_differing no_lines (kept_lines (whole_lines log)) ≡ None
  pub printed : IsPrinted (device_of options arch) (whole_lines log) text

-- these are what the files at the paths say, as far as it is known
abbrev pub AreRead : (List ℕ → Option (List ℕ)) → LogWishes → List ℕ → List ℕ → Type 0
AreRead known wishes architecture log = IsBeginning (known wishes.arch.now) (MAX_TEXT + 1) architecture × IsBeginning (known wishes.log.now) (2 ^ 64 - 1) log

-- the files at the paths are read, and the text is what is printed of them
pub record IsPrintOf (known : List ℕ → Option (List ℕ)) (wishes : LogWishes) (text : List ℕ) : Type 0 where
  pub architecture : List ℕ
  pub log : List ℕ
  pub read : AreRead known wishes architecture log
  pub shortened : IsShortened wishes.options architecture log text

-- Why nothing is printed of a log with that architecture: the log begins otherwise, or a line says
-- another sum; the architecture has a fault; the output failed; or memory ran out.
abbrev pub IsRefusal : Options → List ℕ → List ℕ → Bool → Outcome → Type 0
IsRefusal options architecture log failed NoMemory = ⊤
IsRefusal options architecture log failed OutputFailed = failed ≡ true
IsRefusal options architecture log failed (ArchRefused fault) = arch_of architecture options.tracks ≡ Err fault
IsRefusal options architecture log failed LogDiffers = BeginsOtherwise options architecture (whole_lines log) ⊎ (first_differing no_lines (kept_lines (whole_lines log)) ≢ None)
IsRefusal options architecture log failed other = ⊥

-- the files at the paths are read and refused
pub record AreReadAndRefused (known : List ℕ → Option (List ℕ)) (wishes : LogWishes) (failed : Bool) (outcome : Outcome) : Type 0 where
  pub architecture : List ℕ
  pub log : List ℕ
  pub read : AreRead known wishes architecture log
  pub refused : IsRefusal wishes.options architecture log failed outcome

-- the file with this role failed
abbrev pub HasFailed : (List ℕ → Type 0) → LogWishes → FileRole → Type 0
HasFailed fails wishes Architecture = fails wishes.arch.now
HasFailed fails wishes Log = fails wishes.log.now
HasFailed fails wishes other = ⊥

-- why nothing is printed: a file failed, the files are refused, or memory ran out
abbrev pub IsUnprinted : (List ℕ → Type 0) → (List ℕ → Option (List ℕ)) → Bool → LogWishes → Outcome → Type 0
IsUnprinted fails known failed wishes NoMemory = ⊤
IsUnprinted fails known failed wishes (FileFailed role) = HasFailed fails wishes role
IsUnprinted fails known failed wishes other = AreReadAndRefused known wishes failed other
