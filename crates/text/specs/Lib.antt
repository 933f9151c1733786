pub mod Text
pub mod Lines
pub mod Wrote
pub mod Cases
