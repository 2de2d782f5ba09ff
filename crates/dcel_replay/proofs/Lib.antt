mod Texts
mod Written
