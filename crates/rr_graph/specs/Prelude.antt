-- The names of the crates below that this crate's definitions and contracts use.
pub use Rattle.arch_file.specs.Arch.{IsArch, IsWithin, input_count, is_input_class, is_output_class, output_count}
pub use Rattle.arch_file.specs.declared.arch.Arch.{Arch}
pub use Rattle.arch_file.specs.declared.arch.Sides.{Sides}
pub use Rattle.arch_file.specs.declared.arch.TheConstants.{MAX_IO_RAT, MAX_PINS, MAX_TRACKS}
pub use Rattle.grid.specs.Sizes.{IsStripSize}
pub use Rattle.grid.specs.declared.Strip.{Strip}
pub use Rattle.grid.specs.declared.TheConstants.{MAX_COLUMNS}
