pub mod VoteLaws
pub mod VoteTableLaws
pub mod EveryFourthLaws
pub mod LaneLaws
pub mod FourLaws
