-- Definitions that only the proofs read: what maps and words have to do with each other.
pub mod Cycles
pub mod Renumbering
pub mod RingTests
pub mod Sectors
pub mod Sound
pub mod Standing
