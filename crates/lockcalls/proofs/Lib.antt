pub mod LockCheckLaws
pub mod LockCallLaws
pub mod LockImageLaws
pub mod Callers
pub mod Cards
pub mod TornCards
pub mod Incident
