pub mod Places
pub mod Covering
pub mod Delaunay
pub mod Round
pub mod Sight
