-- What the functions on a row of a table mean, and the laws that their proofs use.
pub mod Kernel
pub mod Fits
pub mod KernelTurns
pub mod Steps
pub mod StepsTurns
