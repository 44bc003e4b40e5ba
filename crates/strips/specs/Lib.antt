-- A stripe of a shelf as it is seen in the lent image, and with what is lost filled in.
pub mod Seen
pub mod Answers
pub mod Laws
pub mod Turns
pub mod Whole
pub mod Prepared
