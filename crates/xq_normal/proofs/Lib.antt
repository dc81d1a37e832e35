pub mod Lists
pub mod Clauses
pub mod Arrows
pub mod NormalForms
pub mod Shapes
