pub mod Gives
pub mod Plants
pub mod Reads
pub mod private
