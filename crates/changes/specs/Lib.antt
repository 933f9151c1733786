pub mod Pending
pub mod Adjust
pub mod Books
pub mod Words
pub mod Frame
pub mod Lent
pub mod Meaning
pub mod Cases
