pub mod Zeros
pub mod Build
pub mod Fits
pub mod Laws
pub mod Counts
pub mod Whole
