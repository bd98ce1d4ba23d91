mod Prelude
mod AlikeSteps
mod ChoiceSteps
mod LastSteps
mod ServingSteps
mod WritingSteps
