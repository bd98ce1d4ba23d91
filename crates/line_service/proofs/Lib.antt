mod Prelude
pub mod AlongLemmas
mod EndLemmas
mod EventLemmas
mod Examples
pub mod LineLemmas
pub mod TalkLemmas
