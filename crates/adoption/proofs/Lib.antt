pub mod Adoption
pub mod AdoptedViews
pub mod SyndromesAlone
pub mod Cases
