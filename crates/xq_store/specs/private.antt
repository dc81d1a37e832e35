pub mod Adopted
pub mod Shelves
pub mod Keeps
