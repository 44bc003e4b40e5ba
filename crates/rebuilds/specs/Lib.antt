pub mod Judge
pub mod Readied
pub mod Begin
pub mod Survivors
pub mod On
