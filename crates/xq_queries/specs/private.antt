pub mod Copying
pub mod Direct
pub mod Lines
pub mod Plans
pub mod Ranges
