pub mod edits
pub mod covering
pub mod hull
pub mod removal
pub mod location
pub mod segments
pub mod star
