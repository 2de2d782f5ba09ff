pub mod Locating
pub mod Nearest
