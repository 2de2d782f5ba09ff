pub mod ByNumber
pub mod Flipping
pub mod Outcome
