mod Prelude
mod Ways
mod Raising
mod Starting
mod Ending
mod Tracing
mod Marks
mod Looping
