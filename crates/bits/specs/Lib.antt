-- Laws of exclusive or that the library lacks, and tests at every number below n.
pub mod Xor
pub mod Below
