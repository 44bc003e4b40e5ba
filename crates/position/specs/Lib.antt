-- One byte position of a stripe, with its unknown shards found by search; and that a rebuild finds the same.
pub mod Row
pub mod Search
pub mod Position
pub mod Lists
pub mod Rebuild
