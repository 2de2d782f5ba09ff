pub mod Data
pub mod EdgeLists
pub mod Lists
pub mod Taking
pub mod Vectors
pub mod Whole
