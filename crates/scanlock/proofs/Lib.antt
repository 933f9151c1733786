pub mod LockEventLaws
pub mod AxisHistory
pub mod ByHistory
pub mod ByEvents
pub mod SoundLocks
pub mod EventRefusalLaws
pub mod Cases
