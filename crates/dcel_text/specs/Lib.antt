pub mod Items
pub mod Lines
pub mod Numbers
pub mod Output
pub mod Texts
pub mod Transfer
