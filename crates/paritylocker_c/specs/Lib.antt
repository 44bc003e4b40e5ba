-- What the functions of the C interface answer.
pub mod Answers
pub mod Blocks
pub mod Ended
pub mod Labels
pub mod Shelf
