pub mod Lifts
pub mod Rows
pub mod Writes
pub mod Filling
pub mod Shorter
