mod Prelude
mod DraftLemmas
mod EndLemmas
mod Examples
pub mod FewPins
mod KeywordRanks
mod LineLemmas
mod ReadLemmas
mod ReaderLemmas
mod SegmentLemmas
mod SideLemmas
