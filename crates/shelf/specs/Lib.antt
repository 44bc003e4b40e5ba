pub mod Kept
pub mod Fill
pub mod Act
pub mod Step
pub mod Says
pub mod Laws
pub mod Bound
