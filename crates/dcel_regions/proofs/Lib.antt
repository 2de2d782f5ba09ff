pub mod Reached
pub mod Over
pub mod Levels
pub mod Numbers
pub mod Steps
