pub mod Quoted
pub mod Same
pub mod Readback
pub mod Reading
pub mod Tokens
pub mod Rounding
pub mod Legible
pub mod Results
