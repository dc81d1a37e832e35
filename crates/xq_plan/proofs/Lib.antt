pub mod Environments
pub mod Scans
pub mod Forms
pub mod Widths
pub mod Flwor
pub mod Groups
pub mod Walks
pub mod Shapes
