pub mod Play
pub mod Run
pub mod Output
pub mod Session
pub mod Sheet
