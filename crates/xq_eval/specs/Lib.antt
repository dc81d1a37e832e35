pub mod Reads
pub mod private
