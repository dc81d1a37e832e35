pub mod Casting
pub mod Comparing
pub mod Numbers
