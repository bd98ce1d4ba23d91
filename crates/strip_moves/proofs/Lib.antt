mod Prelude
mod AcceptedMoves
mod Rooms
mod Settling
