pub mod Cutting
pub mod Decimals
pub mod Digits
pub mod LineEnds
pub mod Listing
mod Reading
pub mod Runs
pub mod Writing
