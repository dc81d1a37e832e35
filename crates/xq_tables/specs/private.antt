pub mod Adopt
pub mod Carries
pub mod Columns
pub mod Numbered
pub mod Schemas
pub mod Statements
pub mod Streams
pub mod Inside
