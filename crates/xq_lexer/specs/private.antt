pub mod Changes
pub mod Lexes
