pub mod Ended
pub mod Fitting
pub mod Marked
pub mod Pushed
pub mod Written
