-- The host's blocks: read, write, and the scrub and repair of a stripe.
pub mod Slots
pub mod Counted
pub mod Answers
pub mod Read
pub mod Write
pub mod Scrub
pub mod Repair
