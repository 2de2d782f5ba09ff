pub mod Along
pub mod AlongLinks
pub mod Anchoring
pub mod Descending
pub mod Dropping
pub mod Ears
pub mod FaceWords
pub mod GivingUp
pub mod Mending
mod Numbers
pub mod OutEdges
pub mod Public
pub mod Reading
pub mod Rounds
pub mod Setting
pub mod stored
pub mod Turning
pub mod Unlinking
