-- The names of the crates below that this crate's definitions and contracts use.
pub use Rattle.arch_file.specs.Arch.{IsArch, is_clock_class, is_input_class, is_output_class}
pub use Rattle.arch_file.specs.declared.arch.Arch.{Arch}
pub use Rattle.arch_file.specs.declared.arch.Pin.{Pin}
pub use Rattle.arch_file.specs.declared.arch.PinClass.{PinClass}
pub use Rattle.arch_file.specs.declared.arch.PinClass.TheVariants.{Clock, Input, Output}
pub use Rattle.arch_file.specs.declared.arch.TheConstants.{MAX_PINS}
pub use Rattle.ble_cluster.specs.Bles.{LogicElement, bles_of}
pub use Rattle.ble_cluster.specs.Clusters.{clocks_of, cluster_of, clusters_after, elements_at, fits_in_cluster, free_of, outputs_of, outside_inputs, unfit_of, with_cluster}
pub use Rattle.ble_cluster.specs.FreeBles.{AllFit, FreeBlesState}
pub use Rattle.ble_cluster.specs.Nets.{distinct_nets, has, with_nets}
pub use Rattle.ble_cluster.specs.OutsideInputs.{inputs_of}
pub use Rattle.blif.specs.LawfulCircuits.{IsCircuit}
pub use Rattle.blif.specs.declared.circuit.Circuit.{Circuit}
pub use Rattle.blif.specs.declared.circuit.TheConstants.{MAX_NETS}
pub use Rattle.blif.specs.declared.latches.Latch.{Latch}
pub use Rattle.rows.specs.ByKey.{items_with, pairs_with}
pub use Rattle.rows.specs.Spans.{part_of}
pub use Rattle.rows.specs.declared.by_key.Keyed.{Keyed}
