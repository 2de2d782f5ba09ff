pub mod Carried
pub mod Matching
pub mod Twice
