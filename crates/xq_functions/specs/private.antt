pub mod Calls
pub mod Running
pub mod Documents
pub mod Nodes
pub mod Places
pub mod Words
