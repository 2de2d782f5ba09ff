pub mod GivenUp
pub mod Lists
pub mod Record
