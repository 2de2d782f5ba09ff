pub mod Rooms
pub mod Sizes
pub mod Taken
pub mod Values
