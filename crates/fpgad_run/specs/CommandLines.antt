-- Which option gives which part of a command line.
use Rattle.std.specs.Prelude.{◌≡◌, Some, codes, option_map}
use Rattle.fpgad_run.specs.Prelude.{Given, number_of, text_of}
use Rattle.fpgad_run.specs.declared.options.CommandLine.{CommandLine}

-- each number, and the path if there is one, is that of its option
pub record IsLineOf (given : Given) (line : CommandLine) : Type 0 where
  pub tracks : number_of 32 given (codes "tracks") ≡ Some line.options.tracks
  pub columns : number_of 32 given (codes "columns") ≡ Some line.options.columns
  pub rows : number_of 32 given (codes "rows") ≡ Some line.options.rows
  pub workers : number_of 32 given (codes "workers") ≡ Some line.options.workers
  pub arch : option_map (λ path. path.now) line.arch ≡ text_of given (codes "arch")
