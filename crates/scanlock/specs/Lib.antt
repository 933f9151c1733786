pub mod Axis
pub mod Locks
pub mod History
pub mod ByHistory
pub mod ByEvents
pub mod SoundLocks
pub mod Cases
