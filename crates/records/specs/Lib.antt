pub mod Refusals
pub mod Fields
pub mod Formats
pub mod Writing
