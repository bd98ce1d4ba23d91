-- The names of the crates below that this crate's definitions and contracts use.
pub use Rattle.block_places.specs.Fits.{fit_of, kind_of}
pub use Rattle.block_places.specs.Placed.{ArePlaced, is_same_place, place_of}
pub use Rattle.block_places.specs.declared.fit.Fit.TheVariants.{Fits}
pub use Rattle.cluster.specs.Blocks.{BlockNet, block_nets, blocks_of}
pub use Rattle.cluster.specs.Clusters.{PackedCircuit}
pub use Rattle.cluster.specs.Keys.{BlockKey, keys_of}
pub use Rattle.cluster.specs.declared.block.BlockKind.{BlockKind}
pub use Rattle.cluster.specs.declared.block.BlockKind.TheVariants.{Cluster}
pub use Rattle.grid.specs.Listed.{places_in_order}
pub use Rattle.grid.specs.Places.{place_at, places_of}
pub use Rattle.grid.specs.Sizes.{IsStripSize}
pub use Rattle.grid.specs.declared.Strip.{Strip}
pub use Rattle.grid.specs.declared.place.Kind.{Kind}
pub use Rattle.grid.specs.declared.place.Kind.TheVariants.{Logic, Pad}
pub use Rattle.grid.specs.declared.place.Place.{Place}
pub use Rattle.kept_places.specs.Kept.{KeptPlaces, in_order, kept_place}
pub use Rattle.kept_places.specs.Table.{key_of}
pub use Rattle.rand_pcg.specs.Lcg.{Lcg, increment_of, started}
pub use Rattle.rand_pcg.specs.Pcg.{multiplier_64, pcg32}
pub use Rattle.rows.specs.ByKey.{items_by_key, pairs_with}
pub use Rattle.rows.specs.declared.by_key.Keyed.{Keyed}
