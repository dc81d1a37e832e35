pub mod Work
pub mod Ends
