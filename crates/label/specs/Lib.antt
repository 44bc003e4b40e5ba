pub mod Fields
pub mod Bytes
pub mod Valid
pub mod Newest
pub mod Strange
