pub mod CutLemmas
mod Examples
mod FeedLemmas
