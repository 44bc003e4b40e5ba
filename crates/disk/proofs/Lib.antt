pub mod GeometryLaws
pub mod Image
pub mod Masks
pub mod NumberLaws
pub mod Search
