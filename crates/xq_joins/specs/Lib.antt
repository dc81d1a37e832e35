pub mod Keys
pub mod Joins
pub mod Equalities
pub mod Keyed
pub mod Atoms
pub mod Paths
pub mod private
