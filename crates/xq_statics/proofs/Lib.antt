pub mod Equations
pub mod Judging
mod Lists
mod WorkedRows
