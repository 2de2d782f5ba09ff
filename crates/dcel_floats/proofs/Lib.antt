pub mod Patterns
pub mod Steps
pub mod Roundings
pub mod Fitting
