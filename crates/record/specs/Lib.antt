pub mod Layout
pub mod Stamp
pub mod Tail
pub mod Log
