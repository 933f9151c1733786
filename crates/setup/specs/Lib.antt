pub mod Layout
pub mod Limits
pub mod Setup
pub mod Check
pub mod Modules
pub mod RoundTrip
