pub mod Limits
pub mod Refusal
pub mod Tests
pub mod Geometry
pub mod Image
pub mod Number
pub mod Mask
