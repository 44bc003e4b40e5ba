pub mod Agree
pub mod Runs
