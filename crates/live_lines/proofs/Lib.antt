mod Prelude
mod AnswerLemmas
mod EndLemmas
mod EndSteps
mod Examples
mod FigureLemmas
mod ItemLemmas
mod KeptNames
pub mod LawLemmas
mod LineLemmas
mod SaidLemmas
