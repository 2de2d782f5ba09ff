pub mod Straight
pub mod Closing
pub mod Worked
