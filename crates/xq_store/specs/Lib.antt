pub mod Adoption
pub mod Views
pub mod private
