pub mod Views
pub mod Paths
pub mod Reads
pub mod Nodes
pub mod Runs
pub mod private
