pub mod InstanceLaws
pub mod PlaceLaws
