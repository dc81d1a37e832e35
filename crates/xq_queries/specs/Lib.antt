-- The public contracts cite `Reading`, `Values`, `Scans`, `Reads` and `ReadBack`.
pub mod Texts
pub mod Reading
pub mod Scans
pub mod Values
pub mod Reads
pub mod ReadBack
pub mod private
