pub mod Known
pub mod Same
pub mod Scans
pub mod Sure
pub mod private
