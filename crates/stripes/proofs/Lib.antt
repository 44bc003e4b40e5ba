pub mod Same
pub mod Slice
