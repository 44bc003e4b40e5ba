-- A shelf's stripe as the slice that encode, rebuild and scrub take: what these make of it is what the protocol's code says.
pub mod Slice
pub mod Same
