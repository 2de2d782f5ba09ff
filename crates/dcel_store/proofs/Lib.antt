pub mod Answering
pub mod DataLists
pub mod Exchanges
pub mod Lengths
pub mod Taken
