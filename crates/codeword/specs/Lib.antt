-- What a stripe means: its equations, tables of equations, and that any k shards determine the rest.
pub mod Sum
pub mod Stripe
pub mod Table
pub mod Unit
pub mod Named
pub mod Chosen
pub mod Minors
pub mod Unique
pub mod Liars
pub mod Mend
pub mod Complete
pub mod Laid
