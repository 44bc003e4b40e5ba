pub mod Labels
pub mod Media
pub mod Order
pub mod Written
pub mod Records
pub mod Sector
