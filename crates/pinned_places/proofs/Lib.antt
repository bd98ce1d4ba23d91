mod Prelude
mod Named
mod Steps
mod Started
mod Exchanged
mod MetPins
mod AllExchanged
mod Examples
