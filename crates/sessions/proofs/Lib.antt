mod Prelude
mod CommandLemmas
pub mod Counted
pub mod EndToEndLemmas
mod Examples
pub mod Fitting
pub mod GivenBack
pub mod KeptLemmas
pub mod ReadingLemmas
pub mod StepLemmas
mod Stepping
pub mod WaitLemmas
mod WholeSessionLemmas
mod WordLemmas
pub mod RefusalTexts
