pub mod ArrivalLaws
pub mod HalfHeardLaws
pub mod LimitLaws
