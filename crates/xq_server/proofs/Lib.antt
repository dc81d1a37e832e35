pub mod Telling
pub mod Again
pub mod Running
pub mod Serving
pub mod Once
pub mod Evaluating
