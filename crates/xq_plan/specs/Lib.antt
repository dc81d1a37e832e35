pub mod Scans
pub mod private
