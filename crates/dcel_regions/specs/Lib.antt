pub mod Marked
pub mod Regions
-- What only private functions ask and leave.
pub mod Numbering
