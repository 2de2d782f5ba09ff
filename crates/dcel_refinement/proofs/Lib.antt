mod Dots
mod Exceptions
mod Growth
mod Judged
mod Reached
mod Steps
