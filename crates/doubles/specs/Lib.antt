pub mod Double
pub mod Array
