pub mod Limits
pub mod State
pub mod Told
pub mod Stage
