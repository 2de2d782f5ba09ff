pub mod Quality
pub mod Refined
pub mod Tangents
