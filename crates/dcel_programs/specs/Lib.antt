pub mod Endings
pub mod Given
