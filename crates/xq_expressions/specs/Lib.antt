pub mod Signatures
pub mod Scopes
pub mod private
