-- Which words give which option.
use Rattle.std.specs.Prelude.{ℕ, ◌≡◌, true, not, ◌||◌, ◌&&◌, Option, Some, None, codes, is_some, option_map}
use Rattle.live_run.specs.Prelude.{Given, is_given, number_of, text_of}
use Rattle.live_run.specs.declared.options.CommandLine.{CommandLine}
use Rattle.live_run.specs.declared.options.Options.{Options}

-- the sizes are those of their names
pub record AreOptionsOf (given : Given) (options : Options) : Type 0 where
  pub tracks : number_of 32 given (codes "tracks") ≡ Some options.tracks
  pub columns : number_of 32 given (codes "columns") ≡ Some options.columns
  pub rows : number_of 32 given (codes "rows") ≡ Some options.rows
  pub tenant_memory : number_of 32 given (codes "tenant-memory") ≡ Some options.tenant_memory

-- the line of the log is that of `--told`, if there is one
abbrev pub IsToldOf : Given → Option ℕ → Type 0
IsToldOf given None = text_of given (codes "told") ≡ None
IsToldOf given (Some line) = number_of 64 given (codes "told") ≡ Some line

-- each option is the one of its name; a line of the log needs a log, and so does who follows one,
-- without a line of it
pub record IsLineOf (given : Given) (line : CommandLine) : Type 0 where
  pub options : AreOptionsOf given line.options
  pub workers : number_of 32 given (codes "workers") ≡ Some line.workers
  pub arch : text_of given (codes "arch") ≡ Some line.arch.now
  pub log : text_of given (codes "log") ≡ option_map (λ path. path.now) line.log
  pub told : IsToldOf given line.told
  pub needs : (not (is_some line.told) || is_some line.log) ≡ true
  pub ready : is_given given (codes "ready") ≡ line.ready
  pub follows : is_given given (codes "follow") ≡ line.follows
  pub follows_one : (not line.follows || (is_some line.log && not (is_some line.told))) ≡ true
