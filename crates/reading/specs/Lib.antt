pub mod Reading
pub mod Raw
pub mod Theorems
