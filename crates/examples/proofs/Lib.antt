pub mod Patterns
pub mod Replaying
pub mod Marked
