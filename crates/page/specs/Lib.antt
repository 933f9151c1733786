pub mod Flags
pub mod Page
pub mod Host
pub mod Calls
pub mod Refusals
pub mod Promise
pub mod Cases
pub mod Turned
