-- The names of the crates below that this crate's definitions and contracts use.
pub use Rattle.arch_file.specs.Arch.{IsArch, input_count}
pub use Rattle.arch_file.specs.declared.arch.Arch.{Arch}
pub use Rattle.arch_file.specs.declared.arch.TheConstants.{MAX_INPUTS}
pub use Rattle.blif.specs.LawfulCircuits.{IsCircuit, IsLatchWithin, IsTableWithin}
pub use Rattle.blif.specs.LookupTables.{LookupTable}
pub use Rattle.blif.specs.declared.circuit.Circuit.{Circuit}
pub use Rattle.blif.specs.declared.circuit.TheConstants.{MAX_NETS}
pub use Rattle.blif.specs.declared.latches.Latch.{Latch}
pub use Rattle.rows.specs.ByKey.{pairs_with}
pub use Rattle.rows.specs.Spans.{part_of}
pub use Rattle.rows.specs.declared.by_key.Keyed.{Keyed}
