pub mod AppendLaws
pub mod NumberLaws
pub mod ItemLaws
pub mod PlaceLaws
pub mod LengthLaws
