pub mod Plans
pub mod Same
