mod Prelude
mod Examples
pub mod Lists
pub mod Held
pub mod Holdings
pub mod Exact
pub mod Columns
pub mod JournalTexts
pub mod Histories
pub mod Keeps
pub mod Slots
pub mod Serving
pub mod MovedStrips
pub mod Effects
pub mod Counting
pub mod Alone
pub mod Parted
pub mod Owning
pub mod Alike
pub mod There
pub mod Booking
pub mod Moving
