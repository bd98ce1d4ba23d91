mod Prelude
pub mod PlaceHeading
pub mod Refusals
pub mod StripTexts
