pub mod Apart
pub mod Instances
pub mod Places
pub mod Unique
