pub mod Account
pub mod Fading
pub mod Round
pub mod TakenBack
pub mod Charges
pub mod Range
pub mod Lent
pub mod Cases
