pub mod Changes
pub mod Packed
pub mod private
pub mod PackedTrees
pub mod Found
pub mod Values
