pub mod Alone
pub mod Behind
pub mod Reading
pub mod Parses
