mod Prelude
mod Examples
mod SectionLemmas
pub mod Telling
mod ThreadLemmas
