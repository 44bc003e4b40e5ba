-- CRC-32C: its definition, and what a table for it holds.
pub mod Crc
pub mod Table
