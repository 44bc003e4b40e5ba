-- A shelf's code as the protocol asks for it: sectors of parity, few slots, and what the strips give back.
pub mod Quorum
pub mod Counted
pub mod Parity
pub mod Strips
pub mod Exact
pub mod Code
pub mod Promise
