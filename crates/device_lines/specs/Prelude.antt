-- The names of the crates below that this crate's definitions and contracts use.
pub use Rattle.arch_file.specs.declared.arch.TheConstants.{MAX_IO_RAT, MAX_PINS, MAX_TRACKS}
pub use Rattle.grid.specs.declared.TheConstants.{MAX_COLUMNS, MAX_ROWS}
pub use Rattle.line_text.specs.Decimal.{decimal_of}
pub use Rattle.line_text.specs.declared.text_error.TextError.{TextError}
pub use Rattle.line_text.specs.declared.text_error.TextError.TheVariants.{Fault, NoMemory}
pub use Rattle.rr_graph.specs.Resources.{resource_rank}
pub use Rattle.rr_graph.specs.declared.resource.Resource.{Resource}
pub use Rattle.rr_graph.specs.declared.resource.ResourceKind.{ResourceKind}
pub use Rattle.rr_graph.specs.declared.resource.ResourceKind.TheVariants.{ChanX, ChanY, Ipin, Opin, Pad}
