pub mod Vote
pub mod VoteTable
pub mod Lanes
