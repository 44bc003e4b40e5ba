-- The field of 256 elements.
pub mod Field
pub mod Product
pub mod Power
pub mod Order
pub mod ByteField
pub mod Solve
pub mod Refusal
pub mod Quotient
pub mod Each
pub mod Turns
