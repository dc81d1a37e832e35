pub mod Look
pub mod Rel
pub mod Grammar
pub mod Answers
pub mod private
