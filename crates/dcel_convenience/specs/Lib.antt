pub mod Anywhere
pub mod Collapsing
pub mod Inserting
pub mod Removing
pub mod Simple
pub mod Surrounding
