-- The limits of a strip's size.
use Rattle.arch_file.specs.declared.arch.TheConstants.{MAX_IO_RAT}
use Rattle.grid.specs.declared.TheConstants.{MAX_COLUMNS, MAX_ROWS}
use Rattle.arch_file.specs.Arch.{IsWithin}
use Rattle.grid.specs.declared.Strip.{Strip}

-- the strip is within its limits
pub record IsStripSize (strip : Strip) : Type 0 where
  pub width : IsWithin 1 strip.width MAX_COLUMNS
  pub rows : IsWithin 1 strip.rows MAX_ROWS
  pub io_rat : IsWithin 1 strip.io_rat MAX_IO_RAT
