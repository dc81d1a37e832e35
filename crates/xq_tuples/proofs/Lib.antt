pub mod Lists
pub mod Laid
pub mod Keeping
pub mod Copies
pub mod Refusals
pub mod Placing
pub mod GroupWidths
pub mod Sorting
pub mod Rules
pub mod Ranking
pub mod Arranging
pub mod Columns
pub mod Comparing
pub mod Reading
mod WorkedRows
