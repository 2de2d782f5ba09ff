mod Between
pub mod Holding
mod Least
mod Marked
mod Meshes
mod Places
mod Read
mod WholeListed
