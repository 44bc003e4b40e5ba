-- What solving the code's table for a list of shards means, and the laws that the proofs use.
pub mod Lost
pub mod Lists
pub mod Rows
pub mod Own
pub mod Solving
pub mod Pivot
pub mod SolveTurns
