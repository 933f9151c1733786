pub mod Lag
pub mod Hearing
pub mod Causes
pub mod Alignment
pub mod Accusation
pub mod Syndrome
pub mod StruckOff
