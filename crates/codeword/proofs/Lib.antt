pub mod Complete
pub mod Laid
pub mod Liars
pub mod Mend
pub mod Minors
pub mod Enough
pub mod Unique
pub mod Worked
