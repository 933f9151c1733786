pub mod ViewWord
pub mod Adoption
pub mod Views
pub mod Section
pub mod AdoptionMeans
pub mod Cases
