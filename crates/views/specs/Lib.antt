-- What the strips' functions show and make of a lent image is what the protocol reads, writes, rebuilds and finds.
pub mod Seen
pub mod Whole
pub mod Prepared
pub mod Solvable
pub mod Filled
pub mod Program
