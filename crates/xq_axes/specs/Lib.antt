pub mod Reads
pub mod Many
pub mod private
pub mod Nodes
pub mod Owners
pub mod Scans
pub mod DoubleSlash
