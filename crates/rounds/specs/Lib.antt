pub mod Slot
pub mod Survey
pub mod Plans
