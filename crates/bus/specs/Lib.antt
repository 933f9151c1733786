pub mod Bus
pub mod Senders
pub mod Heard
