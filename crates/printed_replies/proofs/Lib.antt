mod Prelude
pub mod BehindLemmas
mod Examples
pub mod FirstPlaces
pub mod LengthLemmas
pub mod PrintLemmas
pub mod ReadLemmas
pub mod OnePass
pub mod SectionLemmas
