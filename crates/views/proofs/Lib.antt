pub mod Filled
pub mod Prepared
pub mod Program
pub mod Seen
pub mod Whole
