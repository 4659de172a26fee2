pub mod Trees
pub mod Words
pub mod Templates
pub mod Grammar
pub mod Texts
pub mod Limits
pub mod Theorems
