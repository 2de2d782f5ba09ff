-- Shapes: their maps, and shapes that show a map.
pub mod Maps
pub mod Shown
pub mod Renames
pub mod SameNumbers
pub mod Chains
pub mod Sizes
pub mod Anchors
