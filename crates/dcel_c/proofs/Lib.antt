pub mod Applied
pub mod Buffers
pub mod Ended
pub mod Filling
pub mod Kept
pub mod Payload
pub mod Walked
