pub mod PlayLaws
pub mod SessionLaws
pub mod StartLaws
pub mod RunPartLaws
pub mod SoundRunLaws
pub mod Session
pub mod OutputLaws
pub mod Sheet
