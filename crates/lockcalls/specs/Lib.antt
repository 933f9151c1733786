pub mod LockImage
pub mod LockCalls
pub mod Callers
pub mod Cards
pub mod TornCards
pub mod Incident
