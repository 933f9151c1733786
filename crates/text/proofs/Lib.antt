pub mod NumberLaws
pub mod LineLaws
pub mod WroteLaws
pub mod Cases
