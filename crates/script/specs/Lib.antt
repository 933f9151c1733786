pub mod Words
pub mod Check
pub mod Events
pub mod Cursor
pub mod Told
pub mod Rounds
pub mod Effect
pub mod Cases
