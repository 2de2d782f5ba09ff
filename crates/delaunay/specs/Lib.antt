pub mod Answers
pub mod Asked
pub mod Outlined
pub mod Placed
pub mod Segments
pub mod Texts
