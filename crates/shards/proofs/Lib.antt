pub mod CodeLaws
pub mod Even
pub mod Exact
pub mod Parity
pub mod Promise
pub mod Quorum
pub mod Strips
