-- The names of the crates below that this crate's definitions and contracts use.
pub use Rattle.least_path.specs.Graph.{AreNodes, Graph, IsLawful}
pub use Rattle.least_path.specs.LeastPath.{HasNoPath, IsLeastPath, TellsLeastPath, least_path}
pub use Rattle.least_path.specs.LowerBound.{IsLowerBound}
pub use Rattle.least_path.specs.Path.{IsPath, Leads, cost_of, path_cmp}
pub use Rattle.least_path.specs.declared.path.Path.{Path}
