pub mod Cases
pub mod ScanLaws
pub mod GatherLaws
pub mod EventLaws
pub mod AheadLaws
pub mod EffectLaws
pub mod PlaceLaws
pub mod CastLaws
