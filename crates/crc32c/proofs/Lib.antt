pub mod Laws
pub mod Rows
pub mod Slices
pub mod Vectors
