-- Algebra in rings and fields of characteristic 2.
pub mod Ring
pub mod Adjoin
pub mod Field
pub mod Vander
pub mod Innocent
pub mod Cauchy
pub mod Recover
