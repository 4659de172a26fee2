pub mod Places
pub mod Walking
pub mod Visiting
pub mod Moving
pub mod Joining
