pub mod Meaning
pub mod Answer
pub mod Step
pub mod ReadBack
pub mod Run
pub mod Service
pub mod private
