pub mod Places
pub mod Faults
pub mod Statics
pub mod Gives
pub mod private
