pub mod Sector
pub mod Shelf
pub mod Labels
pub mod Records
pub mod Media
