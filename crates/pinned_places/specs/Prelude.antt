-- The names of the crates below that this crate's definitions and contracts use.
pub use Rattle.block_places.specs.Fits.{fit_of, kind_of}
pub use Rattle.block_places.specs.Placed.{ArePlaced, block_at, is_same_place, place_of}
pub use Rattle.block_places.specs.declared.fit.Fit.TheVariants.{Fits}
pub use Rattle.cluster.specs.Blocks.{blocks_of}
pub use Rattle.cluster.specs.Clusters.{PackedCircuit}
pub use Rattle.cluster.specs.Keys.{BlockKey, keys_of}
pub use Rattle.cluster.specs.declared.block.BlockKind.{BlockKind}
pub use Rattle.cluster.specs.declared.block.BlockKind.TheVariants.{Cluster, InputPad, OutputPad}
pub use Rattle.grid.specs.Places.{places_of}
pub use Rattle.grid.specs.Sizes.{IsStripSize}
pub use Rattle.grid.specs.declared.Strip.{Strip}
pub use Rattle.grid.specs.declared.place.Kind.TheVariants.{Pad}
pub use Rattle.grid.specs.declared.place.Place.{Place}
pub use Rattle.kept_places.specs.Kept.{in_order}
pub use Rattle.kept_places.specs.Table.{key_of}
pub use Rattle.line_text.specs.declared.text_error.TextError.{TextError}
pub use Rattle.line_text.specs.declared.text_error.TextError.TheVariants.{Fault, NoMemory}
pub use Rattle.pin_file.specs.PinFiles.{Pin}
pub use Rattle.pin_file.specs.Reading.{pin_read, pins_read}
pub use Rattle.strip_place.specs.Anneal.{PlacingUnderWay, places_by_block}
pub use Rattle.strip_place.specs.Pass.{place_after}
