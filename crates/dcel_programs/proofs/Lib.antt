pub mod AfterParsing
