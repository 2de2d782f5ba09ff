pub mod Course
pub mod Runs
pub mod Untouched
