-- What the functions on a stripe mean, and the laws that their proofs use.
pub mod Shape
pub mod Lists
pub mod Padded
pub mod PadTurns
pub mod Stripes
pub mod Blame
pub mod Filling
pub mod Answering
pub mod Exact
pub mod Least
