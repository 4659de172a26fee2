pub mod Paths
pub mod Machine
pub mod Depths
pub mod Derivations
