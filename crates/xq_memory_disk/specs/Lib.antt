pub mod MemoryDisk
pub mod private
