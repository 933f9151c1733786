pub mod ViewWordLaws
pub mod MajorityLaws
pub mod ViewsLaws
pub mod ViewTestLaws
pub mod ViewWords
pub mod Cases
