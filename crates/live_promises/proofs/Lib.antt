mod Prelude
mod MomentLemmas
mod ToldLemmas
